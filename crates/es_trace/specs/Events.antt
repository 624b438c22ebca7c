-- To believe: the rows of an event of an agent, and what it answered.
use Rattle.std.specs.Prelude.{ℕ, Bool, true, false, List, [], ◌++◌, Option, Some, None, codes, decimal, slice_get, if◌then◌else◌}
use Rattle.std.specs.List.{flat_map}
use Rattle.es_value.specs.declared.value.Value.{Value}
use Rattle.es_value.specs.Printed.{value_text}
use Rattle.es_event.specs.declared.command.Command.{Command}
use Rattle.es_event.specs.declared.command.Command.TheVariants.{Say, Keys}
use Rattle.es_event.specs.declared.event.Answer.{Answer}
use Rattle.es_event.specs.declared.event.Answer.TheVariants.{Nothing, Gives, Listed}
use Rattle.es_event.specs.declared.event.Event.{Event}
use Rattle.es_event.specs.declared.event.Event.TheVariants.{JobBegun, CleanupBegun, Received, Did, Refused, Emptied, Taken, JobEnded, Skipped, Closed}
use Rattle.es_event.specs.declared.plan.AgentPlan.{AgentPlan}
use Rattle.es_event.specs.History.{History}
use Rattle.es_event.specs.Order.{left}
use Rattle.es_event.specs.Report.{line}
use Rattle.es_trace.specs.Columns.{label, row, widest}
use Rattle.es_trace.specs.Commands.{command_text, name_at}

-- Events

-- the next command of the running job or callback, if one is left
abbrev pub at_hand : AgentPlan → History → Option Command
at_hand plan h = slice_get (left plan h) 0

-- what is told of a refusal, or of an emptying, is its command. A refusal without one is that of a message for which there is no room;
-- an emptying without one is the end of a later collection
abbrev pub or_else : List ℕ → List (List ℕ) → AgentPlan → Option Command → List ℕ
or_else text names plan None = text
or_else text names plan (Some c) = command_text names plan c

-- a refusal that is caught is done as the `let` of its text, in the place of the command at hand; a `let` is never refused
abbrev pub is_let : Command → Bool
is_let (Command.Let x l) = true
is_let c = false

-- the variable and the command that was refused, where the command that was done is such a `let`
abbrev pub caught : Option Command → Command → Option (List ℕ × Command)
caught None c = None
caught (Some d) (Command.Let x l) = if is_let d then None else Some (x, d)
caught (Some d) c = None

abbrev pub did_text : List (List ℕ) → AgentPlan → Option (List ℕ × Command) → Command → List ℕ
did_text names plan None c = command_text names plan c
did_text names plan (Some p) c = codes "try " ++ p.0 ++ codes " " ++ command_text names plan p.1

-- the event, where this command was at hand
abbrev pub event_text : List (List ℕ) → AgentPlan → Option Command → Event → List ℕ
event_text names plan o (JobBegun j) = codes "job " ++ decimal j
event_text names plan o (CleanupBegun q) = codes "cleanup job of object " ++ decimal q
event_text names plan o (Received t v) = codes "message of " ++ name_at names t
event_text names plan o (Did (c, vs, r)) = did_text names plan (caught o c) c
event_text names plan o (Refused code) = or_else (codes "message") names plan o
event_text names plan o (Emptied ids) = or_else (codes "later collection ends") names plan o
event_text names plan o (Taken n held) = codes "registration " ++ decimal n ++ codes " taken"
event_text names plan o JobEnded = codes "job ends"
event_text names plan o (Skipped j t) = codes "no message of " ++ name_at names t
event_text names plan o Closed = codes "agent ends"

-- Answers

-- the event has an answer: the line that the report has of it, or else the value that was given
abbrev pub is_answered : Command → Answer → Bool
is_answered (Say y) r = true
is_answered (Keys o) (Listed ks) = true
is_answered c Nothing = false
is_answered c (Gives v) = true
is_answered c (Listed ks) = false

abbrev pub answers : Event → Bool
answers (JobBegun j) = false
answers (CleanupBegun q) = false
answers (Received t v) = true
answers (Did (c, vs, r)) = is_answered c r
answers (Refused code) = true
answers (Emptied ids) = true
answers (Taken n held) = true
answers JobEnded = false
answers (Skipped j t) = true
answers Closed = false

abbrev pub given_text : Value → List ℕ
given_text v = value_text v ++ codes "\n"

-- of event e, which did the command
abbrev pub answer_of : Event → Command → Answer → List ℕ
answer_of e (Say y) r = line e
answer_of e (Keys o) (Listed ks) = line e
answer_of e c Nothing = []
answer_of e c (Gives v) = given_text v
answer_of e c (Listed ks) = []

abbrev pub answer_text : Event → List ℕ
answer_text (JobBegun j) = []
answer_text (CleanupBegun q) = []
answer_text (Received t v) = given_text v
answer_text (Did (c, vs, r)) = answer_of (Did (c, vs, r)) c r
answer_text (Refused code) = line (Refused code)
answer_text (Emptied ids) = line (Emptied ids)
answer_text (Taken n held) = line (Taken n held)
answer_text JobEnded = []
answer_text (Skipped j t) = line (Skipped j t)
answer_text Closed = []

-- Rows

-- an object or a symbol that a collection emptied, by its number
abbrev pub emptied_row : List ℕ → ℕ → List ℕ
emptied_row l i = row l (codes "  " ++ decimal i) true ++ codes "emptied\n"

abbrev pub emptied_rows : List ℕ → Event → List ℕ
emptied_rows l (JobBegun j) = []
emptied_rows l (CleanupBegun q) = []
emptied_rows l (Received t v) = []
emptied_rows l (Did (c, vs, r)) = []
emptied_rows l (Refused code) = []
emptied_rows l (Emptied ids) = flat_map (emptied_row l) ids
emptied_rows l (Taken n held) = []
emptied_rows l JobEnded = []
emptied_rows l (Skipped j t) = []
emptied_rows l Closed = []

-- the rows of one event
abbrev pub event_rows : List (List ℕ) → AgentPlan → List ℕ → Option Command → Event → List ℕ
event_rows names plan l o e = row l (event_text names plan o e) (answers e) ++ answer_text e ++ emptied_rows l e

-- those of an event of an agent with this plan, among agents of these names, after this history
abbrev pub rows_after : List (List ℕ) → AgentPlan → History → Event → List ℕ
rows_after names plan earlier e = event_rows names plan (label (widest 1 names) plan.name) (at_hand plan earlier) e
