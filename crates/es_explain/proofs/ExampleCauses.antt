-- Sentences on a plan's value: of each kind one that stands where another might.
use Rattle.std.proofs.Common.{◌≡◌, refl, codes}
use Rattle.std.specs.Fmt.{digits}
use Rattle.std.specs.Str.{chars}
use Rattle.serde_json.specs.Data.{Data, number, unsigned, string, array, object, no_items, item, no_members, member}
use Rattle.serde_json.proofs.OnLiterals.{serde_json_on_literals}
use Rattle.es_reading.specs.declared.fault.FaultCode.TheVariants.{Version, AgentCount, Name, Unknown, Operands, Profile, Collection, Limit}
use Rattle.es_reading.specs.declared.fault.Place.TheVariants.{Whole, Agent, Callback, Job}
use Rattle.es_reading.specs.Places.{at}
use Rattle.es_explain.specs.Words.{table}
use Rattle.es_explain.specs.Causes.{cause}

abbrev callbacks : Data
callbacks = object (member (codes "d") (array no_items) (member (codes "e") (array no_items) no_members))

abbrev first : Data
first = object (member (codes "callbacks") callbacks (member (codes "name") (string (codes "a")) no_members))

abbrev second : Data
second = object (member (codes "callbacks") (object no_members) (member (codes "name") (string (codes "b")) no_members))

-- a plan of version 1, in as far as sentences look at it
abbrev plan : Data
plan = object (member (codes "agents") (array (item first (item second no_items))) (member (codes "version") (number (unsigned 1)) no_members))

abbrev one : Data → Data
one d = array (item d no_items)

abbrev command : Data → Data → Data
command w d = array (item w (item d no_items))

version : cause (at Whole 0 Version) plan (number (unsigned 4)) ≡ codes "The version is 1, 2 or 3."
version = refl

count : cause (at Whole 0 AgentCount) plan (array no_items) ≡ codes "A plan has 1 to 8 agents, and here are none."
count = refl

twice : cause (at (Agent 1) 0 Name) plan (string (codes "a")) ≡ codes "Two agents have the name a."
twice = refl

digit : cause (at (Agent 0) 0 Name) plan (string (codes "9a")) ≡ codes "\"9a\" is no name: it begins with a digit."
unfolding digits chars serde_json_on_literals
digit = refl

hyphen : cause (at (Callback 0 1) 0 Name) plan (string (codes "a-b")) ≡ codes "\"a-b\" is no name: it has \"-\"."
unfolding digits chars serde_json_on_literals
hyphen = refl

-- the second of what a job waits for
variable : cause (at (Job 0 1) 0 Name) plan (command (string (codes "b")) (string (codes ""))) ≡ codes "\"\" is no name: it is empty."
unfolding digits chars serde_json_on_literals
variable = refl

itself : cause (at (Job 0 1) 0 Unknown) plan (command (string (codes "a")) (string (codes "x"))) ≡ codes "Agent a can't wait for itself."
unfolding digits chars serde_json_on_literals
itself = refl

nobody : cause (at (Job 1 1) 0 Unknown) plan (command (string (codes "c")) (string (codes "x"))) ≡ codes "There is no agent \"c\" to wait for. Other agents: \"a\"."
unfolding digits chars serde_json_on_literals
nobody = refl

no_callback : cause (at (Job 0 1) 1 Unknown) plan (array (item (string (codes "registry")) (item (string (codes "r")) (item (string (codes "f")) no_items)))) ≡ codes "There is no callback \"f\". Callbacks of agent a: \"d\", \"e\"."
unfolding digits chars serde_json_on_literals
no_callback = refl

unknown : cause (at (Job 0 1) 1 Operands) plan (command (string (codes "nwe")) (string (codes "x"))) ≡ codes "There is no command \"nwe\". Did you mean new?"
unfolding digits chars serde_json_on_literals table
unknown = refl

later : cause (at (Job 0 1) 1 Operands) plan (one (string (codes "collectlater"))) ≡ codes "collectlater is a command of version 2."
unfolding digits chars serde_json_on_literals table
later = refl

few : cause (at (Job 0 1) 1 Operands) plan (command (string (codes "set")) (string (codes "o"))) ≡ codes "set takes O K Y, and here is 1 operand."
unfolding digits chars serde_json_on_literals table
few = refl

misfit : cause (at (Job 0 1) 1 Operands) plan (command (string (codes "say")) (number (unsigned 1))) ≡ codes "Operand 1 of say is a name, and here stands the number 1."
unfolding digits chars serde_json_on_literals table
misfit = refl

said : cause (at (Job 0 1) 1 Name) plan (command (string (codes "say")) (string (codes "a b"))) ≡ codes "Operand 1 of say is a name, and \"a b\" is no name: it has \" \". A text is said by a variable that let gave it."
unfolding digits chars serde_json_on_literals table
said = refl

outside : cause (at (Job 0 1) 1 Profile) plan (array (item (string (codes "let")) (item (string (codes "x")) (item (number (unsigned 9007199254740992)) no_items)))) ≡ codes "Operand 2 of let is not from -9007199254740991 to 9007199254740991."
unfolding digits chars serde_json_on_literals table
outside = refl

collection : cause (at (Callback 0 1) 1 Collection) plan (one (string (codes "collect"))) ≡ codes "collect can't stand in a callback: collect in a job."
collection = refl

words : cause (at (Job 0 1) 1 Limit) plan (array (item (string (codes "buffer")) (item (string (codes "b")) (item (number (unsigned 16385)) no_items)))) ≡ codes "A buffer has at most 16384 words."
unfolding digits chars serde_json_on_literals table
words = refl
