-- To believe: the sentence that says what a fault of a plan's value is.
use Rattle.std.specs.Prelude.{ℕ, ◌+◌, ◌==◌, ◌||◌, not, is_some, nat_le, nat_lt, Bool, true, false, List, [], ◌∷◌, ◌++◌, length, Option, Some, None, option_and_then, option_map, unwrap_or, codes, decimal, if◌then◌else◌}
use Rattle.std.specs.Str.{bytes_eq, chars}
use Rattle.serde_json.specs.Data.{Data, number, string, array, Num, unsigned, negative, float, Items, no_items, item, Members, no_members, member}
use Rattle.serde_json.specs.Events.{items_len, members_len}
use Rattle.serde_json.specs.Find.{at, get, as_number, as_i64, is_float}
use Rattle.es_value.specs.Limits.{longest_name, longest_text, most_callbacks, most_jobs, most_commands, most_words}
use Rattle.es_value.specs.Spelling.{is_name, is_name_byte, is_text, is_text_byte}
use Rattle.es_reading.specs.declared.fault.FaultCode.{FaultCode}
use Rattle.es_reading.specs.declared.fault.FaultCode.TheVariants.{Shape, Version as WrongVersion, AgentCount, Name, Unknown, Operands, Profile, Collection, Limit}
use Rattle.es_reading.specs.declared.fault.Place.{Place}
use Rattle.es_reading.specs.declared.fault.Place.TheVariants.{Whole, Agent, Callback, Job}
use Rattle.es_reading.specs.declared.fault.ScriptFault.{ScriptFault}
use Rattle.es_reading.specs.declared.version.Version.{Version}
use Rattle.es_reading.specs.declared.version.Version.TheVariants.{One}
use Rattle.es_reading.specs.Versions.{version_of}
use Rattle.es_reading.specs.Parts.{items_in, members_in, text_in}
use Rattle.es_reading.specs.Forms.{OperandType, name, literal, text, callback, agent, whole, amount, words, Form, form, is_try, is_whole, fits, modification_named}
use Rattle.es_explain.specs.Words.{table, letters_in, nearest}
use Rattle.es_explain.specs.Texts.{◌▸◌, quoted, letter, value_text}
use Rattle.es_explain.specs.Misshapen.{sentence_of, plan_trouble}

-- What is no name

-- the first letter that fails the test
abbrev pub first_other : (ℕ → Bool) → List ℕ → Option ℕ
first_other test [] = None
first_other test (c ∷ cs) = if test c then first_other test cs else Some c

-- a text of which all letters may stand in a name is none where it is empty, too long, or begins with a digit
abbrev pub ill_formed : List ℕ → List ℕ
ill_formed s =
    if length s == 0 then codes "it is empty." else
    (if nat_le (length s) longest_name then codes "it begins with a digit." else
    codes "it has " ▸ decimal (length s) ▸ codes " letters, and a name has at most " ▸ decimal longest_name ▸ codes ".")

abbrev pub why_no_name : Option ℕ → List ℕ → List ℕ
why_no_name (Some c) s = codes "it has " ▸ letter c ▸ codes "."
why_no_name None s = ill_formed s

abbrev pub no_name : List ℕ → List ℕ
no_name s = quoted s ▸ codes " is no name: " ▸ why_no_name (first_other is_name_byte (chars s)) s

-- an agent's name, or a callback's key
abbrev pub one_name : List ℕ → List ℕ
one_name s = if is_name s then codes "Two agents have the name " ▸ s ▸ codes "." else no_name s

-- whose message a job waits for, and the variable that it assigns
abbrev pub two_names : List ℕ → List ℕ → List ℕ
two_names s x = if is_name s then no_name x else no_name s

abbrev pub name_sentence : Place → Data → List ℕ
name_sentence (Job a j) d = two_names (text_in (at 0 d)) (text_in (at 1 d))
name_sentence p d = one_name (text_in (Some d))

-- What has no such name

-- each name after a comma but the first, and two dots after eight names
abbrev pub next_name : ℕ → List ℕ → List ℕ
next_name n m = if n == 0 then quoted m else (if nat_lt n 8 then codes ", " ▸ quoted m else (if n == 8 then codes ", .." else []))

-- names in order, of which n stand before
abbrev pub listed : ℕ → List (List ℕ) → List ℕ
listed n [] = []
listed n (m ∷ ms) = next_name n m ++ listed (n + 1) ms

abbrev pub or_none : List ℕ → List ℕ
or_none [] = codes "none"
or_none (c ∷ cs) = c ∷ cs

abbrev pub all_listed : List (List ℕ) → List ℕ
all_listed ms = or_none (listed 0 ms)

abbrev pub keys : Members → List (List ℕ)
keys no_members = []
keys (member k d ms) = k ∷ keys ms

-- names of agents in order, of which the first has the number n, without agent a
abbrev pub other_names : ℕ → ℕ → Items → List (List ℕ)
other_names a n no_items = []
other_names a n (item d ds) =
    if n == a then other_names a (n + 1) ds else text_in (get (codes "name") d) ∷ other_names a (n + 1) ds

abbrev pub agents_in : Data → Items
agents_in d = items_in (get (codes "agents") d)

abbrev pub agent_in : Data → ℕ → Option Data
agent_in d a = option_and_then (at a) (get (codes "agents") d)

abbrev pub name_in : Data → ℕ → List ℕ
name_in d a = text_in (option_and_then (get (codes "name")) (agent_in d a))

abbrev pub no_callback : Data → ℕ → List ℕ → List ℕ
no_callback d a s =
    codes "There is no callback " ▸ quoted s ▸ codes ". Callbacks of agent " ▸ name_in d a ▸ codes ": " ▸ all_listed (keys (members_in (option_and_then (get (codes "callbacks")) (agent_in d a)))) ▸ codes "."

-- none to which agent a can do this
abbrev pub no_agent : List ℕ → Data → ℕ → List ℕ → List ℕ
no_agent deed d a s =
    if bytes_eq s (name_in d a) then codes "Agent " ▸ s ▸ codes " can't " ▸ deed ▸ codes " itself." else
    codes "There is no agent " ▸ quoted s ▸ codes " to " ▸ deed ▸ codes ". Other agents: " ▸ all_listed (other_names a 0 (agents_in d)) ▸ codes "."

-- whose message a job of agent a waits for
abbrev pub awaited_sentence : Data → ℕ → Data → List ℕ
awaited_sentence d a part = no_agent (codes "wait for") d a (text_in (at 0 part))

-- Commands and their operands

-- what an operand of the type has to be
abbrev pub type_text : OperandType → List ℕ
type_text name = codes "a name"
type_text literal = codes "null, true, false, a number or a text"
type_text text = codes "a text"
type_text callback = codes "the name of a callback"
type_text agent = codes "the name of an agent"
type_text whole = codes "a number"
type_text amount = codes "a name or a number"
type_text words = codes "a number"

-- whether an operand of the type has the fault
abbrev pub is_wrong : FaultCode → OperandType → Data → Bool
is_wrong Operands k d = not (fits k d)
is_wrong Name name (string s) = not (is_name s)
is_wrong Name callback (string s) = not (is_name s)
is_wrong Name agent (string s) = not (is_name s)
is_wrong Name amount (string s) = not (is_name s)
is_wrong Unknown callback d = true
is_wrong Unknown agent d = true
is_wrong Profile literal (string s) = not (is_text s)
is_wrong Profile text (string s) = not (is_text s)
is_wrong Profile k (number x) = not (unwrap_or (option_map is_whole (as_i64 x)) false)
is_wrong Limit words d = true
is_wrong c k d = false

-- an operand that has a fault, counted from 1
pub record Wrong : Type 0 where
  pub number : ℕ
  pub type : OperandType
  pub operand : Data

-- the first from the left; the first of these has the number n
abbrev pub first_wrong : FaultCode → ℕ → List OperandType → Items → Option Wrong
first_wrong c n (k ∷ ks) (item d ds) =
    if is_wrong c k d then Some (record { number = n; type = k; operand = d }) else first_wrong c (n + 1) ks ds
first_wrong c n _ _ = None

-- an operand of a command with this word
abbrev pub operand_text : List ℕ → ℕ → List ℕ
operand_text w n = codes "Operand " ▸ decimal n ▸ codes " of " ▸ w

-- the word nearest to one that is none
abbrev pub meant : Option (List ℕ) → List ℕ
meant None = []
meant (Some near) = codes " Did you mean " ▸ near ▸ codes "?"

-- a command that came with version 3
abbrev pub is_of_three : List ℕ → Bool
is_of_three w = is_some (modification_named w) || (bytes_eq w (codes "compareexchange") || (bytes_eq w (codes "wait") || bytes_eq w (codes "notify")))

-- a word that the version has not: version 1 lacks collectlater, and both before 3 lack what came with it
abbrev pub no_word : List ℕ → List ℕ
no_word w =
    if bytes_eq w (codes "collectlater") then codes "collectlater is a command of version 2." else
    if bytes_eq w (codes "try") then codes "try stands before a command, once, in plans of version 3." else
    if is_of_three w then w ▸ codes " is a command of version 3." else
    codes "There is no command " ▸ quoted w ▸ codes "." ▸ meant (nearest w)

abbrev pub operands_here : ℕ → List ℕ
operands_here n = if n == 0 then codes "are no operands" else (if n == 1 then codes "is 1 operand" else codes "are " ▸ decimal n ▸ codes " operands")

abbrev pub wrong_count : List ℕ → ℕ → List ℕ
wrong_count w n = w ▸ codes " takes " ▸ letters_in table w ▸ codes ", and here " ▸ operands_here n ▸ codes "."

-- an operand of another JSON kind
abbrev pub misfit : List ℕ → Wrong → List ℕ
misfit w x = operand_text w x.number ▸ codes " is " ▸ type_text x.type ▸ codes ", and here stands " ▸ value_text x.operand ▸ codes "."

-- a text is written where a variable is read
abbrev pub advice : List ℕ → List ℕ
advice w = if bytes_eq w (codes "say") then codes " A text is said by a variable that let gave it." else []

-- what stands in the place of a name
abbrev pub named_text : OperandType → List ℕ
named_text amount = codes "a name or a number"
named_text k = codes "a name"

abbrev pub misnamed : List ℕ → Wrong → List ℕ
misnamed w x = operand_text w x.number ▸ codes " is " ▸ named_text x.type ▸ codes ", and " ▸ no_name (text_in (Some x.operand)) ▸ advice w

-- in agent a's commands
abbrev pub unknown_name : Data → ℕ → OperandType → List ℕ → List ℕ
unknown_name d a callback s = no_callback d a s
unknown_name d a k s = no_agent (codes "post to") d a s

-- a text has a letter that no text may have, or is too long
abbrev pub ill_text : Option ℕ → List ℕ → List ℕ
ill_text (Some c) s = codes " has " ▸ letter c ▸ codes ": a text has the letters from the space to ~, without \" and \\."
ill_text None s = codes " has " ▸ decimal (length s) ▸ codes " letters, and a text has at most " ▸ decimal longest_text ▸ codes "."

abbrev pub ill_number : Num → List ℕ
ill_number x =
    if is_float x then codes " has a point or an exponent, is -0, or is too large: a number is whole, from -9007199254740991 to 9007199254740991." else
    codes " is not from -9007199254740991 to 9007199254740991."

abbrev pub outside : Data → List ℕ
outside (string s) = ill_text (first_other is_text_byte (chars s)) s
outside (number x) = ill_number x
outside d = []

abbrev pub is_negative : Num → Bool
is_negative (unsigned n) = false
is_negative (negative z) = true
is_negative (float x) = false

-- a number of words
abbrev pub ill_size : Num → List ℕ
ill_size x = if is_negative x then codes "A buffer can't have fewer than 0 words." else codes "A buffer has at most " ▸ decimal most_words ▸ codes " words."

abbrev pub ill_words : Data → List ℕ
ill_words (number x) = ill_size x
ill_words d = []

abbrev pub wrong_operand : FaultCode → Data → ℕ → List ℕ → Wrong → List ℕ
wrong_operand Operands d a w x = misfit w x
wrong_operand Name d a w x = misnamed w x
wrong_operand Unknown d a w x = unknown_name d a x.type (text_in (Some x.operand))
wrong_operand Profile d a w x = operand_text w x.number ++ outside x.operand
wrong_operand Limit d a w x = ill_words x.operand
wrong_operand c d a w x = []

abbrev pub if_wrong : FaultCode → Data → ℕ → List ℕ → Option Wrong → List ℕ
if_wrong c d a w None = []
if_wrong c d a w (Some x) = wrong_operand c d a w x

-- as many operands as types, or a fault of S7
abbrev pub operands_sentence : FaultCode → Data → ℕ → List ℕ → List OperandType → Items → List ℕ
operands_sentence c d a w ks ds = if items_len ds == length ks then if_wrong c d a w (first_wrong c 1 ks ds) else wrong_count w (items_len ds)

abbrev pub form_sentence : FaultCode → Data → ℕ → List ℕ → Option (List OperandType) → Items → List ℕ
form_sentence c d a w None ds = no_word w
form_sentence c d a w (Some ks) ds = operands_sentence c d a w ks ds

abbrev pub types : Option Form → Option (List OperandType)
types f = option_map (λ f. f.types) f

-- the version that the value says; of a value that says none it does not matter
abbrev pub version_in : Data → Version
version_in d = unwrap_or (version_of (option_and_then as_i64 (option_and_then as_number (get (codes "version") d)))) One

-- a command with this word and these operands, of agent a
abbrev pub command_sentence : FaultCode → Data → ℕ → List ℕ → Items → List ℕ
command_sentence Collection d a w ds = w ▸ codes " can't stand in a callback: collect in a job."
command_sentence c d a w ds = form_sentence c d a w (types (form (version_in d) w (items_len ds))) ds

-- Numbers of parts

abbrev pub agent_count : ℕ → List ℕ
agent_count n = if n == 0 then codes "A plan has 1 to 8 agents, and here are none." else codes "A plan has 1 to 8 agents, and here are " ▸ decimal n ▸ codes "."

abbrev pub too_many : List ℕ → List ℕ → ℕ → ℕ → List ℕ
too_many owner parts most n = owner ▸ codes " has at most " ▸ decimal most ▸ codes " " ▸ parts ▸ codes ", and this one has " ▸ decimal n ▸ codes "."

-- an agent with too many callbacks, or else too many jobs
abbrev pub agent_limit : Data → List ℕ
agent_limit d =
    let callbacks = members_len (members_in (get (codes "callbacks") d)) in
    if nat_le callbacks most_callbacks then too_many (codes "An agent") (codes "jobs") most_jobs (items_len (items_in (get (codes "jobs") d))) else
    too_many (codes "An agent") (codes "callbacks") most_callbacks callbacks

abbrev pub limit_sentence : Place → Data → List ℕ
limit_sentence Whole d = []
limit_sentence (Agent a) d = agent_limit d
limit_sentence (Callback a k) d = too_many (codes "A callback") (codes "commands") most_commands (items_len (items_in (Some d)))
limit_sentence (Job a j) d = too_many (codes "A job") (codes "commands") most_commands (items_len (items_in (Some d)))

-- The sentence

abbrev pub agent_of : Place → ℕ
agent_of Whole = 0
agent_of (Agent a) = a
agent_of (Callback a k) = a
agent_of (Job a j) = a

-- whether the variable of `try` has the fault
abbrev pub is_misnamed : FaultCode → List ℕ → Bool
is_misnamed Name x = not (is_name x)
is_misnamed c x = false

abbrev pub try_takes : List ℕ
try_takes = codes "try takes a variable, and then the word of a command and its operands."

-- behind `try` and its variable
abbrev pub caught_sentence : FaultCode → Data → ℕ → List ℕ → Items → List ℕ
caught_sentence c d a x (item (string w) ds) = if is_misnamed c x then codes "The variable of try is a name, and " ▸ no_name x else command_sentence c d a w ds
caught_sentence c d a x ds = try_takes

abbrev pub tried_sentence : FaultCode → Data → ℕ → Items → List ℕ
tried_sentence c d a (item (string x) ds) = caught_sentence c d a x ds
tried_sentence c d a ds = try_takes

-- in a command, which is this part of the value
abbrev pub inside : FaultCode → Data → ℕ → Data → List ℕ
inside c d a (array (item (string w) ds)) = if is_try (version_in d) w then tried_sentence c d a ds else command_sentence c d a w ds
inside c d a part = []

-- outside of commands, where this part of the value has the fault
abbrev pub beside : FaultCode → Data → Place → Data → List ℕ
beside Shape d p part = sentence_of (plan_trouble d)
beside WrongVersion d p part = codes "The version is 1, 2 or 3."
beside AgentCount d p part = agent_count (items_len (items_in (Some part)))
beside Name d p part = name_sentence p part
beside Unknown d p part = awaited_sentence d (agent_of p) part
beside Limit d p part = limit_sentence p part
beside c d p part = []

-- of a fault of the value, which this part of it has
abbrev pub cause : ScriptFault → Data → Data → List ℕ
cause f d part = if f.command == 0 then beside f.code d f.place part else inside f.code d (agent_of f.place) part
