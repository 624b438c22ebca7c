-- To believe: what is said of a plan's text for people: that it is a plan, and what it is warned of (es_warnings); or its first fault,
-- where that is, what it is (Causes), and what was found.
use Rattle.std.specs.Prelude.{ℕ, zero, suc, ◌≡◌, ◌==◌, ◌-◌, ◌<◌, ◌≤◌, Bool, false, List, [], ◌∷◌, ◌++◌, length, take, Option, Some, None, option_and_then, codes, decimal, string_bytes, if◌then◌else◌}
use Rattle.std.specs.Str.{IsCharBoundary}
use Rattle.serde_json.specs.Data.{Data, string, Members, no_members, member}
use Rattle.serde_json.specs.Find.{at, get, pointer as points_to}
use Rattle.serde_json.specs.Written.{IsInOrder, has_float, compact_text}
use Rattle.es_event.specs.declared.plan.Plan.{Plan}
use Rattle.es_reading.specs.declared.fault.FaultCode.{FaultCode}
use Rattle.es_reading.specs.declared.fault.FaultCode.TheVariants.{Shape, Version, AgentCount, Name, Limit}
use Rattle.es_reading.specs.declared.fault.Place.{Place}
use Rattle.es_reading.specs.declared.fault.Place.TheVariants.{Whole, Agent, Callback, Job}
use Rattle.es_reading.specs.declared.fault.ScriptFault.{ScriptFault}
use Rattle.es_reading.specs.Numbers.{number_of}
use Rattle.es_reading.specs.Parts.{members_in}
use Rattle.es_script.specs.Fault.{IsPlanOf, fault_of, json_value}
use Rattle.es_warnings.specs.Texts.{warnings_text}
use Rattle.es_warnings.specs.Warnings.{warnings}
use Rattle.es_explain.specs.Texts.{escaped}
use Rattle.es_explain.specs.Misshapen.{place_of, plan_trouble}
use Rattle.es_explain.specs.Causes.{cause}
use Rattle.es_explain.specs.Unread.{IsUnread}
use Rattle.es_explain.specs.declared.found.Said.{Said}
use Rattle.es_explain.specs.declared.explanation.Explanation.{Explanation}
use Rattle.es_explain.specs.declared.explanation.Explanation.TheVariants.{Plan as IsPlan, Fault}

-- Where a fault is: the JSON Pointer (RFC 6901) of the part of the value that has it

-- the key of the member that has so many before it
abbrev pub key_from : ℕ → Members → List ℕ
key_from n no_members = []
key_from zero (member k d ms) = k
key_from (suc n) (member k d ms) = key_from n ms

abbrev pub callbacks_in : Option Data → ℕ → Option Data
callbacks_in o a = option_and_then (get (codes "callbacks")) (option_and_then (at a) (option_and_then (get (codes "agents")) o))

-- the key of a callback; callbacks, jobs and commands are counted from 1 in a fault, and from 0 in a pointer
abbrev pub key_at : Option Data → Place → List ℕ
key_at o (Callback a k) = key_from (k - 1) (members_in (callbacks_in o a))
key_at o p = []

abbrev pub callback_place : ℕ → List ℕ → List ℕ
callback_place a key = codes "/agents/" ++ (decimal a ++ (codes "/callbacks/" ++ escaped key))

abbrev pub job_place : ℕ → ℕ → List ℕ
job_place a j = codes "/agents/" ++ (decimal a ++ (codes "/jobs/" ++ decimal j))

-- the index of a command, where the fault is in one
abbrev pub index_of : ℕ → Option ℕ
index_of n = if n == 0 then None else Some (n - 1)

abbrev pub whole_part : Option Data → FaultCode → List ℕ
whole_part o Shape = place_of (option_and_then plan_trouble o)
whole_part o Version = codes "/version"
whole_part o AgentCount = codes "/agents"
whole_part o c = []

abbrev pub agent_part : ℕ → FaultCode → List ℕ
agent_part a Name = codes "/agents/" ++ (decimal a ++ codes "/name")
agent_part a c = codes "/agents/" ++ decimal a

abbrev pub callback_part : List ℕ → Option ℕ → List ℕ
callback_part place None = place
callback_part place (Some n) = place ++ (codes "/" ++ decimal n)

-- outside of commands a job has too many of them, or waits for what it can't
abbrev pub job_part : List ℕ → Option ℕ → FaultCode → List ℕ
job_part place (Some n) c = place ++ (codes "/run/" ++ decimal n)
job_part place None Limit = place ++ codes "/run"
job_part place None c = place ++ codes "/on"

abbrev pub placed : Option Data → Place → ℕ → FaultCode → List ℕ
placed o Whole n c = whole_part o c
placed o (Agent a) n c = agent_part a c
placed o (Callback a k) n c = callback_part (callback_place a (key_at o (Callback a k))) (index_of n)
placed o (Job a j) n c = job_part (job_place a (j - 1)) (index_of n) c

abbrev pub pointer : Option Data → ScriptFault → List ℕ
pointer o f = placed o f.place f.command f.code

-- What was found there

-- whether what is wrong is the key of a callback
abbrev pub is_of_key : Place → ℕ → FaultCode → Bool
is_of_key (Callback a k) n Name = n == 0
is_of_key p n c = false

-- such a key, and else the part of the value to which the pointer leads
abbrev pub found_in : Data → List ℕ → ScriptFault → Option Data
found_in d place f = if is_of_key f.place f.command f.code then Some (string (key_at (Some d) f.place)) else points_to place d

-- the text itself, or where it has more than 60 bytes the letters that fit into 60, and two dots
pub record IsCut (text shown : List ℕ) : Type 0 where
  pub short : length text ≤ 60 → shown ≡ text
  pub long : 60 < length text
      → (n : ℕ) × (n ≤ 60) × IsCharBoundary text n × ((i : ℕ) → n < i → i ≤ 60 → ¬ (IsCharBoundary text i)) × (shown ≡ take n text ++ codes "..")

-- JSON of the value without spaces, cut; how a float is written is left to serde_json. Nothing where nothing was found
abbrev pub Shows : Option Data → List ℕ → Type 0
Shows None shown = shown ≡ []
Shows (Some d) shown = (text : List ℕ) × IsInOrder text d × (has_float d ≡ false → text ≡ compact_text d) × IsCut text shown

-- What is said

abbrev pub sentence : ScriptFault → Data → Option Data → List ℕ
sentence f d None = []
sentence f d (Some part) = cause f d part

-- the sentence on a fault at this place, and what was found there
pub record IsSaid (d : Data) (place : List ℕ) (f : ScriptFault) (said : Said) : Type 0 where
  pub sentence : string_bytes said.sentence ≡ sentence f d (found_in d place f)
  pub found : Shows (found_in d place f) (string_bytes said.found)

-- the pointer as JSON has a text, in quotation marks, and what is said of the place; or that there is no value
abbrev pub Locates : List ℕ → Option Data → ScriptFault → List ℕ → Said → Type 0
Locates bytes None f place said = IsUnread bytes place said
Locates bytes (Some d) f place said = (place ≡ compact_text (string (pointer (Some d) f))) × IsSaid d (pointer (Some d) f) f said

-- the plan, and all that it is warned of
abbrev pub IsWarned : Plan → Explanation → Type 0
IsWarned p (IsPlan plan ws) = (plan ≡ p) × (ws.items ≡ warnings p)
IsWarned p (Fault fault place said) = ⊥

-- the plan that the bytes stand for, with what it is warned of; or their first fault, its place, and what is said of it
abbrev pub Explains : List ℕ → Explanation → Type 0
Explains bytes (IsPlan plan ws) = IsPlanOf bytes plan × (ws.items ≡ warnings plan)
Explains bytes (Fault fault place said) = (fault_of bytes ≡ Some fault) × Locates bytes (json_value bytes) fault (string_bytes place) said

abbrev pub fault_lines : FaultCode → List ℕ → List ℕ → List ℕ
fault_lines code place sentence = codes "S" ++ decimal (number_of code) ++ codes " " ++ place ++ codes "\n" ++ sentence ++ codes "\n"

-- none where nothing was found
abbrev pub found_line : List ℕ → List ℕ
found_line [] = []
found_line (x ∷ xs) = codes "found " ++ (x ∷ xs) ++ codes "\n"

abbrev pub explanation_text : Explanation → List ℕ
explanation_text (IsPlan plan ws) = codes "ok\n" ++ warnings_text plan ws.items
explanation_text (Fault fault place said) = fault_lines fault.code (string_bytes place) (string_bytes said.sentence) ++ found_line (string_bytes said.found)
