-- To believe: the first part of a value that keeps it from having the shape of a plan: where it is, and what is wrong with it.
use Rattle.std.specs.Prelude.{ℕ, ◌+◌, ◌||◌, Bool, List, [], Option, Some, None, option_and_then, is_none, codes, decimal, if◌then◌else◌}
use Rattle.std.specs.Str.{bytes_eq}
use Rattle.serde_json.specs.Data.{Data, number, string, array, object, Items, no_items, item, Members, no_members, member}
use Rattle.serde_json.specs.Find.{get, get_item}
use Rattle.es_reading.specs.Shape.{is_text_pair}
use Rattle.es_explain.specs.declared.members.Owner.{Owner}
use Rattle.es_explain.specs.declared.members.Owner.TheVariants.{Plan, Agent, Job}
use Rattle.es_explain.specs.Texts.{◌▸◌, escaped, quoted, value_text}

-- a place in a value, as a JSON Pointer, and what is wrong there
pub record Trouble : Type 0 where
  pub place : List ℕ
  pub sentence : List ℕ

abbrev pub place_of : Option Trouble → List ℕ
place_of None = []
place_of (Some t) = t.place

abbrev pub sentence_of : Option Trouble → List ℕ
sentence_of None = []
sentence_of (Some t) = t.sentence

-- the first of two, where there is one
infixr 20 ◌▹◌
abbrev pub ◌▹◌ : Option Trouble → Option Trouble → Option Trouble
(Some t) ▹ u = Some t
None ▹ u = u

-- with the value itself
abbrev pub here : List ℕ → Option Trouble
here s = Some (record { place = []; sentence = s })

-- what was found is something else
abbrev pub other : List ℕ → Data → Option Trouble
other wanted d = here (wanted ▸ codes ", and here stands " ▸ value_text d ▸ codes ".")

-- the same trouble, in the part that has this key
abbrev pub under : List ℕ → Option Trouble → Option Trouble
under key None = None
under key (Some t) = Some (record { place = codes "/" ▸ key ▸ t.place; sentence = t.sentence })

-- of the first item that has any; the first of these has the index n
abbrev pub each_item : (Data → Option Trouble) → ℕ → Items → Option Trouble
each_item test n no_items = None
each_item test n (item d ds) = under (decimal n) (test d) ▹ each_item test (n + 1) ds

abbrev pub each_member : (Data → Option Trouble) → Members → Option Trouble
each_member test no_members = None
each_member test (member k d ms) = under (escaped k) (test d) ▹ each_member test ms

-- of a list's items
abbrev pub list_trouble : List ℕ → (Data → Option Trouble) → Data → Option Trouble
list_trouble wanted test (array ds) = each_item test 0 ds
list_trouble wanted test d = other wanted d

-- of the member with this key, where there is one
abbrev pub at_key : List ℕ → (Data → Option Trouble) → Data → Option Trouble
at_key key test d = under key (option_and_then test (get key d))

-- Members that an object has, and those that it has not

abbrev pub owner_name : Owner → List ℕ
owner_name Plan = codes "A plan"
owner_name Agent = codes "An agent"
owner_name Job = codes "A job"

abbrev pub owned : Owner → List ℕ
owned Plan = codes "version and agents"
owned Agent = codes "name, callbacks and jobs"
owned Job = codes "run, and on where it waits"

abbrev pub is_owned : Owner → List ℕ → Bool
is_owned Plan k = bytes_eq k (codes "version") || bytes_eq k (codes "agents")
is_owned Agent k = bytes_eq k (codes "name") || (bytes_eq k (codes "callbacks") || bytes_eq k (codes "jobs"))
is_owned Job k = bytes_eq k (codes "run") || bytes_eq k (codes "on")

-- the first member that no such object has
abbrev pub first_unknown : Owner → Members → Option (List ℕ)
first_unknown o no_members = None
first_unknown o (member k d ms) = if is_owned o k then first_unknown o ms else Some k

abbrev pub unknown_member : Owner → List ℕ → Option Trouble
unknown_member o k = under (escaped k) (here (owner_name o ▸ codes " has no member " ▸ quoted k ▸ codes ": it has " ▸ owned o ▸ codes "."))

abbrev pub unknown : Owner → Members → Option Trouble
unknown o ms = option_and_then (unknown_member o) (first_unknown o ms)

-- a member that is not there
abbrev pub missing : Owner → List ℕ → Data → Option Trouble
missing o key d =
    if is_none (get key d) then here (owner_name o ▸ codes " has " ▸ owned o ▸ codes ": " ▸ key ▸ codes " is missing.") else None

-- The parts of a plan

-- what a command begins with, where it is not empty
abbrev pub first_trouble : Option Data → Option Trouble
first_trouble None = here (codes "A command is a list that begins with its word, and this one is empty.")
first_trouble (Some (string w)) = None
first_trouble (Some d) = here (codes "A command is a list that begins with its word, and this one begins with " ▸ value_text d ▸ codes ".")

unfoldable pub command_trouble : Data → Option Trouble
command_trouble (array ds) = first_trouble (get_item 0 ds)
command_trouble d = other (codes "A command is a list that begins with its word") d

unfoldable pub callback_trouble : Data → Option Trouble
callback_trouble d = list_trouble (codes "A callback is a list of commands") command_trouble d

unfoldable pub run_trouble : Data → Option Trouble
run_trouble d = list_trouble (codes "run is a list of commands") command_trouble d

unfoldable pub on_trouble : Data → Option Trouble
on_trouble d =
    if is_text_pair (Some d) then None else here (codes "on is a list of two texts: the agent that is waited for, and a variable.")

unfoldable pub job_trouble : Data → Option Trouble
job_trouble (object ms) =
    unknown Job ms ▹ missing Job (codes "run") (object ms) ▹ at_key (codes "run") run_trouble (object ms) ▹ at_key (codes "on") on_trouble (object ms)
job_trouble d = other (codes "A job is an object") d

unfoldable pub name_trouble : Data → Option Trouble
name_trouble (string s) = None
name_trouble d = other (codes "The name of an agent is a text") d

unfoldable pub callbacks_trouble : Data → Option Trouble
callbacks_trouble (object ms) = each_member callback_trouble ms
callbacks_trouble d = other (codes "callbacks is an object of lists") d

unfoldable pub jobs_trouble : Data → Option Trouble
jobs_trouble d = list_trouble (codes "jobs is a list") job_trouble d

unfoldable pub agent_trouble : Data → Option Trouble
agent_trouble (object ms) =
    unknown Agent ms
    ▹ missing Agent (codes "name") (object ms) ▹ missing Agent (codes "callbacks") (object ms) ▹ missing Agent (codes "jobs") (object ms)
    ▹ at_key (codes "name") name_trouble (object ms) ▹ at_key (codes "callbacks") callbacks_trouble (object ms) ▹ at_key (codes "jobs") jobs_trouble (object ms)
agent_trouble d = other (codes "An agent is an object") d

unfoldable pub version_trouble : Data → Option Trouble
version_trouble (number x) = None
version_trouble d = other (codes "version is a number") d

unfoldable pub agents_trouble : Data → Option Trouble
agents_trouble d = list_trouble (codes "agents is a list") agent_trouble d

unfoldable pub plan_trouble : Data → Option Trouble
plan_trouble (object ms) =
    unknown Plan ms
    ▹ missing Plan (codes "version") (object ms) ▹ missing Plan (codes "agents") (object ms)
    ▹ at_key (codes "version") version_trouble (object ms) ▹ at_key (codes "agents") agents_trouble (object ms)
plan_trouble d = other (codes "A plan is an object") d
