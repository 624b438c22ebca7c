-- To believe: what a call of the library leaves in the caller's memory, for the bytes of a plan.
use Rattle.std.specs.Prelude.{ℕ, ◌≡◌, ◌<◌, ◌++◌, true, false, List, Some, length, take, drop}
use Rattle.es_value.specs.Limits.{longest_plan}
use Rattle.es_reading.specs.declared.fault.ScriptFault.{ScriptFault}
use Rattle.es_script.specs.Fault.{fault_of}
use Rattle.es_script.specs.FaultText.{fault_text}
use Rattle.es_turns.specs.Answer.{IsAnswerTo}
use Rattle.es_options.specs.declared.view.Form.TheVariants.{Lines}
use Rattle.es_turns.specs.Tracing.{IsTraceOf}
use Rattle.es_library.specs.declared.asked.Asked.{Asked}
use Rattle.es_library.specs.declared.asked.Asked.TheVariants.{Report, Check, Trace}

-- the text is what was asked for
abbrev pub IsTextFor : Asked → (bytes text : List ℕ) → Type 0
IsTextFor Report bytes text = IsAnswerTo false bytes text
IsTextFor Check bytes text = IsAnswerTo true bytes text
IsTextFor (Trace all) bytes text = IsTraceOf (record { form = Lines; all = all }) bytes text

-- the text stands at the front, as much of it as there is room for; what is behind it is as before; and its whole length is known
abbrev pub Holds : List ℕ → List ℕ → List ℕ → ℕ → Type 0
Holds text old new count = (new ≡ take (length old) text ++ drop (length text) old) × (count ≡ length text)

-- nothing is handed over
abbrev pub HoldsNothing : List ℕ → List ℕ → ℕ → Type 0
HoldsNothing old new count = (new ≡ old) × (count ≡ 0)

-- 0: what was asked for; 1: the text of the first fault; 3: there was no memory; 4: the bytes are more than a plan has at most
pub record Replies (asked : Asked) (bytes old new : List ℕ) (count status : ℕ) : Type 0 where
  pub answer : status ≡ 0 → (text : List ℕ) × IsTextFor asked bytes text × Holds text old new count
  pub fault : status ≡ 1 → (f : ScriptFault) × (fault_of bytes ≡ Some f) × Holds (fault_text f) old new count
  pub nothing : 1 < status → HoldsNothing old new count
  pub two : status ≡ 2 → ⊥
  pub long : status ≡ 4 → longest_plan < length bytes
  pub last : status < 5
