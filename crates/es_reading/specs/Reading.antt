-- Internal: reading a plan part by part, as the code does: each function gives the part, or the first fault in it.
use Rattle.std.specs.Prelude.{ℕ, ◌≡◌, ◌+◌, not, ⊤, Bool, true, false, ℤ, pos, negsuc, List, [], ◌∷◌, ◌++◌, Option, Some, None, Result, Ok, Err, option_and_then, codes, nat_le, if◌then◌else◌}
use Rattle.std.specs.HashMap.{get_by_text}
use Rattle.serde_json.specs.Data.{Data, null, boolean, number, string, array, Items, no_items, item, Members, no_members, member}
use Rattle.serde_json.specs.Find.{get, as_i64}
use Rattle.es_value.specs.Limits.{most_callbacks, most_jobs, most_commands, most_words}
use Rattle.es_value.specs.Spelling.{is_name, is_text}
use Rattle.es_event.specs.declared.literal.Literal.{Literal}
use Rattle.es_event.specs.declared.literal.Literal.TheVariants.{Undefined, Boolean, Number, Text}
use Rattle.es_event.specs.declared.command.Command.{Command}
use Rattle.es_event.specs.declared.operand.Operand.{Operand}
use Rattle.es_event.specs.declared.plan.Callback.{Callback}
use Rattle.es_event.specs.declared.plan.Job.{Job}
use Rattle.es_event.specs.declared.plan.AgentPlan.{AgentPlan}
use Rattle.es_reading.specs.declared.fault.FaultCode.{FaultCode}
use Rattle.es_reading.specs.declared.fault.FaultCode.TheVariants.{Name, Unknown, Operands, Profile, Collection, Limit}
use Rattle.es_reading.specs.declared.fault.Place.{Place}
use Rattle.es_reading.specs.declared.fault.Place.TheVariants.{Agent, Callback as CallbackPlace, Job as JobPlace}
use Rattle.es_reading.specs.declared.fault.ScriptFault.{ScriptFault}
use Rattle.es_reading.specs.declared.fault.ReadFault.{ReadFault}
use Rattle.es_reading.specs.declared.fault.ReadFault.TheVariants.{Script, NoMemory}
use Rattle.es_reading.specs.declared.fault.Spot.{Spot}
use Rattle.es_reading.specs.declared.number_table.NumberTable.{NumberTable}
use Rattle.es_reading.specs.declared.scope.Scope.{Scope as NumberTables}
use Rattle.es_reading.specs.declared.version.Version.{Version}
use Rattle.es_reading.specs.declared.version.Version.TheVariants.{One}
use Rattle.serde_json.specs.Events.{items_len, members_len}
use Rattle.es_reading.specs.Parts.{items_in, members_in, text_in}
use Rattle.es_reading.specs.Scope.{Numbers, Scope, number_from, agent_from, other_than, is_used}
use Rattle.es_reading.specs.Forms.{OperandType, name, literal, text, callback, agent, whole, amount, words, Meaning, Makes, Form, form, is_allowed, is_try, is_whole, fit}
use Rattle.es_reading.specs.Lines.{Line, commands_in, catches_in}
use Rattle.es_reading.specs.Places.{at, is_in_callback}

-- what is read next, unless there is a fault
abbrev pub then_read : {A B : Type 0} → Result A ScriptFault → (A → Result B ScriptFault) → Result B ScriptFault
then_read (Ok x) f = f x
then_read (Err e) f = Err e

-- the fault where the test fails
abbrev pub unless_fault : {A : Type 0} → Bool → ScriptFault → Result A ScriptFault → Result A ScriptFault
unless_fault true e read = read
unless_fault false e read = Err e

-- a first part, and then the others
abbrev pub and_rest : {A : Type 0} → Result A ScriptFault → Result (List A) ScriptFault → Result (List A) ScriptFault
and_rest first rest = then_read first (λ x. then_read rest (λ xs. Ok (x ∷ xs)))

-- What a function answers is what is read, seen through view, unless there was no memory.
abbrev pub Gives : {X Y : Type 0} → (X → Y) → Result X ReadFault → Result Y ScriptFault → Type 0
Gives view (Ok x) read = read ≡ Ok (view x)
Gives view (Err (Script f)) read = read ≡ Err f
Gives view (Err NoMemory) read = ⊤

-- what has been read already, and then what is read of the rest
abbrev pub after : {A : Type 0} → List A → Result (List A) ScriptFault → Result (List A) ScriptFault
after front read = then_read read (λ rest. Ok (front ++ rest))

abbrev pub fault_at : Spot → FaultCode → ScriptFault
fault_at s c = at s.place s.command c

-- the first of two numbers, where there is one
abbrev pub or_else : Option ℕ → Option ℕ → Option ℕ
or_else (Some n) other = Some n
or_else None other = other

-- the numbers that a table says; unfoldable, since what is proved of commands need not look into the table
unfoldable pub numbered : NumberTable → Numbers
numbered table n = get_by_text table.by_name n

-- the scope of agent a in a plan of the version, by the numbers of its callbacks and those of all agents
abbrev pub scope_by : Version → Numbers → Numbers → ℕ → Scope
scope_by v callbacks agents a = record {
  version = v;
  callbacks = callbacks;
  agents = λ n. option_and_then (other_than a) (agents n);
}

-- the scope that the tables of an agent say, unfoldable for the same reason
unfoldable pub said : NumberTables → Scope
said tables = scope_by tables.version (numbered tables.callbacks) (numbered tables.agents.now) tables.agent

-- the scope in which nothing has a name
abbrev pub nameless : Scope
nameless = record { version = One; callbacks = λ n. None; agents = λ n. None }

-- Operands

abbrev pub name_read : Spot → List ℕ → Result (List ℕ) ScriptFault
name_read s t = unless_fault (is_name t) (fault_at s Name) (Ok t)

abbrev pub text_read : Spot → List ℕ → Result (List ℕ) ScriptFault
text_read s t = unless_fault (is_text t) (fault_at s Profile) (Ok t)

abbrev pub whole_read : Spot → Option ℤ → Result ℤ ScriptFault
whole_read s (Some z) = unless_fault (is_whole z) (fault_at s Profile) (Ok z)
whole_read s None = Err (fault_at s Profile)

abbrev pub size_found : Spot → ℤ → Result ℕ ScriptFault
size_found s (pos n) = unless_fault (nat_le n most_words) (fault_at s Limit) (Ok n)
size_found s (negsuc n) = Err (fault_at s Limit)

abbrev pub words_read : Spot → Option ℤ → Result ℕ ScriptFault
words_read s o = then_read (whole_read s o) (size_found s)

abbrev pub literal_read : Spot → Data → Result Literal ScriptFault
literal_read s null = Ok Undefined
literal_read s (boolean b) = Ok (Boolean b)
literal_read s (number n) = then_read (whole_read s (as_i64 n)) (λ z. Ok (Number z))
literal_read s (string t) = then_read (text_read s t) (λ t. Ok (Text t))
literal_read s _ = Err (fault_at s Operands)

abbrev pub number_found : Spot → Option ℕ → Result ℕ ScriptFault
number_found s (Some n) = Ok n
number_found s None = Err (fault_at s Unknown)

abbrev pub reference_read : Numbers → Spot → List ℕ → Result ℕ ScriptFault
reference_read numbers s t = then_read (name_read s t) (λ t. number_found s (numbers t))

-- a text as the reader reads its bytes
abbrev pub spelled_read : {A : Type 0} → (List ℕ → Result A ScriptFault) → Spot → Data → Result A ScriptFault
spelled_read read s (string t) = read t
spelled_read read s _ = Err (fault_at s Operands)

-- a number as the reader reads its value
abbrev pub counted_read : {A : Type 0} → (Option ℤ → Result A ScriptFault) → Spot → Data → Result A ScriptFault
counted_read read s (number n) = read (as_i64 n)
counted_read read s _ = Err (fault_at s Operands)

-- a number, or the variable whose value is taken
abbrev pub amount_read : Spot → Data → Result Operand ScriptFault
amount_read s (string t) = then_read (name_read s t) (λ x. Ok (Operand.Variable x))
amount_read s (number n) = then_read (whole_read s (as_i64 n)) (λ z. Ok (Operand.Number z))
amount_read s _ = Err (fault_at s Operands)

abbrev pub operand_read : Scope → Spot → (k : OperandType) → Data → Result (Meaning k) ScriptFault
operand_read scope s name d = spelled_read (name_read s) s d
operand_read scope s literal d = literal_read s d
operand_read scope s text d = spelled_read (text_read s) s d
operand_read scope s callback d = spelled_read (reference_read scope.callbacks s) s d
operand_read scope s agent d = spelled_read (reference_read scope.agents s) s d
operand_read scope s whole d = counted_read (whole_read s) s d
operand_read scope s amount d = amount_read s d
operand_read scope s words d = counted_read (words_read s) s d

-- Commands

-- the meanings of operands
abbrev pub Meanings : List OperandType → Type 0
Meanings [] = Unit {0}
Meanings (k ∷ ks) = Meaning k × Meanings ks

abbrev pub made : (ks : List OperandType) → Makes ks → Meanings ks → Command
made [] make xs = make
made (k ∷ ks) make xs = made ks (make xs.0) xs.1

abbrev pub meanings_read : Scope → Spot → (ks : List OperandType) → Items → Result (Meanings ks) ScriptFault
meanings_read scope s [] ds = Ok tt
meanings_read scope s (k ∷ ks) no_items = Err (fault_at s Operands)
meanings_read scope s (k ∷ ks) (item d ds) =
    then_read (operand_read scope s k d) (λ x. then_read (meanings_read scope s ks ds) (λ xs. Ok (x, xs)))

abbrev pub operands_read : Scope → Spot → (ks : List OperandType) → Items → Result (Meanings ks) ScriptFault
operands_read scope s ks ds = unless_fault (fit ks ds) (fault_at s Operands) (meanings_read scope s ks ds)

-- nothing, where the spot is in no callback
abbrev pub outside_read : Spot → Result ⊤ ScriptFault
outside_read s = unless_fault (not (is_in_callback s.place)) (fault_at s Collection) (Ok tt)

abbrev pub form_read : Scope → Spot → Option Form → Items → Result Command ScriptFault
form_read scope s None ds = Err (fault_at s Operands)
form_read scope s (Some f) ds =
    then_read
    (unless_fault (fit f.types ds) (fault_at s Operands)
    (unless_fault (is_allowed (is_in_callback s.place) f) (fault_at s Collection) (meanings_read scope s f.types ds)))
    (λ xs. Ok (made f.types f.makes xs))

-- a command behind `try`: the text that names the variable is its first operand
abbrev pub tried_form_read : Scope → Spot → Option Form → List ℕ → Items → Result Line ScriptFault
tried_form_read scope s None e ds = Err (fault_at s Operands)
tried_form_read scope s (Some f) e ds =
    then_read
    (unless_fault (fit (name ∷ f.types) (item (string e) ds)) (fault_at s Operands)
    (unless_fault (is_allowed (is_in_callback s.place) f) (fault_at s Collection) (meanings_read scope s (name ∷ f.types) (item (string e) ds))))
    (λ xs. Ok (Some xs.0, made f.types f.makes xs.1))

abbrev pub tried_read : Scope → Spot → Items → Result Line ScriptFault
tried_read scope s (item (string e) (item (string w) ds)) = tried_form_read scope s (form scope.version w (items_len ds)) e ds
tried_read scope s _ = Err (fault_at s Operands)

abbrev pub plain_read : Scope → Spot → List ℕ → Items → Result Line ScriptFault
plain_read scope s w ds = then_read (form_read scope s (form scope.version w (items_len ds)) ds) (λ c. Ok (None, c))

abbrev pub line_read : Scope → Spot → Data → Result Line ScriptFault
line_read scope s (array (item (string w) ds)) = if is_try scope.version w then tried_read scope s ds else plain_read scope s w ds
line_read scope s _ = Err (fault_at s Operands)

abbrev pub lines_read : Scope → Place → ℕ → Items → Result (List Line) ScriptFault
lines_read scope p n no_items = Ok []
lines_read scope p n (item d ds) =
    and_rest (line_read scope (record { place = p; command = n }) d) (lines_read scope p (n + 1) ds)

abbrev pub body_read : Scope → Place → Items → Result (List Line) ScriptFault
body_read scope p ds = unless_fault (nat_le (items_len ds) most_commands) (at p 0 Limit) (lines_read scope p 1 ds)

-- Callbacks and jobs

abbrev pub callback_read : Scope → Place → List ℕ → Data → Result Callback ScriptFault
callback_read scope p n d =
    then_read (name_read (record { place = p; command = 0 }) n) (λ n. then_read (body_read scope p (items_in (Some d))) (λ ls. Ok (record { name = n; run = commands_in ls; catches = catches_in ls })))

abbrev pub callbacks_read : Scope → ℕ → ℕ → Members → Result (List Callback) ScriptFault
callbacks_read scope a k no_members = Ok []
callbacks_read scope a k (member n d ms) = and_rest (callback_read scope (CallbackPlace a k) n d) (callbacks_read scope a (k + 1) ms)

-- the number of the agent whose message a job waits for, and the variable, where it waits for one
abbrev pub on_read : Scope → Spot → Option Data → Result (Option (ℕ × List ℕ)) ScriptFault
on_read scope s None = Ok None
on_read scope s (Some d) = then_read (operands_read scope s (agent ∷ name ∷ []) (items_in (Some d))) (λ xs. Ok (Some (xs.0, xs.1.0)))

abbrev pub job_read : Scope → Place → Data → Result Job ScriptFault
job_read scope p d =
    then_read (on_read scope (record { place = p; command = 0 }) (get (codes "on") d))
    (λ on. then_read (body_read scope p (items_in (get (codes "run") d))) (λ ls. Ok (record { on = on; run = commands_in ls; catches = catches_in ls })))

abbrev pub jobs_read : Scope → ℕ → ℕ → Items → Result (List Job) ScriptFault
jobs_read scope a j no_items = Ok []
jobs_read scope a j (item d ds) = and_rest (job_read scope (JobPlace a j) d) (jobs_read scope a (j + 1) ds)

-- Agents

abbrev pub agent_name_read : ℕ → Data → Result (List ℕ) ScriptFault
agent_name_read a d = name_read (record { place = Agent a; command = 0 }) (text_in (get (codes "name") d))

-- nothing, where each name is spelled as one and used once
abbrev pub names_read : ℕ → List (List ℕ) → Items → Result ⊤ ScriptFault
names_read a used no_items = Ok tt
names_read a used (item d ds) =
    then_read (agent_name_read a d)
    (λ n. unless_fault (not (is_used n used)) (at (Agent a) 0 Name) (names_read (a + 1) (used ++ n ∷ []) ds))

-- agent a of a plan of the version, by the numbers of all agents
abbrev pub agent_read : Version → Numbers → ℕ → Data → Result AgentPlan ScriptFault
agent_read v agents a d =
    let callbacks = members_in (get (codes "callbacks") d) in
    let jobs = items_in (get (codes "jobs") d) in
    let scope = scope_by v (number_from 1 callbacks) agents a in
    then_read (agent_name_read a d)
    (λ n. unless_fault (nat_le (members_len callbacks) most_callbacks) (at (Agent a) 0 Limit)
    (unless_fault (nat_le (items_len jobs) most_jobs) (at (Agent a) 0 Limit)
    (then_read (callbacks_read scope a 1 callbacks)
    (λ cs. then_read (jobs_read scope a 1 jobs) (λ js. Ok (record { name = n; callbacks = cs; jobs = js }))))))

abbrev pub agents_read : Version → Numbers → ℕ → Items → Result (List AgentPlan) ScriptFault
agents_read v agents a no_items = Ok []
agents_read v agents a (item d ds) = and_rest (agent_read v agents a d) (agents_read v agents (a + 1) ds)

-- their names, and then the agents
abbrev pub all_read : Version → Items → Result (List AgentPlan) ScriptFault
all_read v ds = then_read (names_read 0 [] ds) (λ _. agents_read v (agent_from 0 ds) 0 ds)
