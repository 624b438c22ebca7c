-- To believe: the tickets that an agent has, and what is handed in and out with an event.
use Rattle.std.specs.Prelude.{ℕ, ◌≡◌, ◌+◌, Bool, true, false, not, List, [], Some, reverse, if◌then◌else◌}
use Rattle.std.specs.List.{filter}
use Rattle.es_value.specs.declared.value.Value.{Value}
use Rattle.es_event.specs.declared.event.Answer.{Answer}
use Rattle.es_event.specs.declared.event.Event.{Event}
use Rattle.es_event.specs.declared.event.Event.TheVariants.{Received, Refused, Emptied, Skipped}
use Rattle.es_event.specs.declared.event.Refusal.TheVariants.{TooManyValues}
use Rattle.es_event.specs.declared.row.Row.{Row}
use Rattle.es_event.specs.Identities.{is_gone, made}
use Rattle.es_event.specs.History.{History}
use Rattle.es_event.specs.Jobs.{receivers}
use Rattle.es_event.specs.Late.{AreLate}
use Rattle.es_event.specs.Later.{snapshot, derefed_since}
use Rattle.es_event.specs.Reach.{AreDead}
use Rattle.es_event.specs.Order.{Phase, between, handed, inside, stopped, ended, phase, Due, begin, receive, run, clean, take_cell, finish, end_job, close, nothing, due}
use Rattle.es_ticket.specs.Stakes.{among}
use Rattle.es_record.specs.AgentView.{AgentView, IsNext, Records, with_buffer}
use Rattle.es_rules.specs.Needs.{asks_message, need, IsDone, Brings}

abbrev pub is_ended : Phase → Bool
is_ended between = false
is_ended handed = false
is_ended inside = false
is_ended stopped = false
is_ended ended = true

-- what the agent's tickets name, by rising identity of their buffer objects: those of buffer objects that are not emptied,
-- until it closes, when it hands out all
abbrev pub tickets : AgentView → List (ℕ × Row)
tickets b = if is_ended (phase b.history) then [] else filter (λ t. not (is_gone b.history t.0)) (reverse b.over)

-- a command comes next, of a job or of a callback
abbrev pub is_command : Due → Bool
is_command (begin n) = false
is_command (receive n s) = false
is_command (run x c) = true
is_command (clean r) = false
is_command (take_cell n) = false
is_command (finish p) = false
is_command end_job = false
is_command close = false
is_command nothing = false

-- one event was appended, the next by the rules and the plan
abbrev pub RecordsNext : AgentView → AgentView → Type 0
RecordsNext old new = (e : Event) × IsNext old e × Records old e new

-- these were emptied in one event, and the tickets of the buffer objects among them came out
abbrev pub Empties : (List ℕ → Type 0) → AgentView → List (ℕ × Row) → AgentView → Type 0
Empties chosen old out new = (ids : List ℕ) × chosen ids × IsNext old (Emptied ids) × Records old (Emptied ids) new × (out ≡ among ids (tickets old))

-- all that was dead was emptied
abbrev pub Collects : AgentView → List (ℕ × Row) → AgentView → Type 0
Collects old out new = Empties (AreDead (receivers old.plan.jobs) old.history) old out new

-- all that is late, by the copy of the open later collection and what derefs gave since
abbrev pub AreLateNow : AgentView → List ℕ → Type 0
AreLateNow b ids = (p : History) → snapshot b.history ≡ Some p → AreLate (receivers b.plan.jobs) p (derefed_since b.history) ids

-- all that was late was emptied, and so the later collection was finished
abbrev pub Finishes : AgentView → List (ℕ × Row) → AgentView → Type 0
Finishes old out new = Empties (AreLateNow old) old out new

-- a new buffer object over the row's block came, by the answer of the due command or by a receipt
abbrev pub Admits : AgentView → Row → AgentView → Type 0
Admits old r new = (e : Event) × Brings (due old.plan old.history) (made old.history + 1) e × IsNext (with_buffer r old) e × Records (with_buffer r old) e new

-- the message with a buffer was refused for want of room
abbrev pub RefusesMessage : AgentView → AgentView → Type 0
RefusesMessage old new = (s : ℕ) × (need old ≡ asks_message s) × IsNext old (Refused TooManyValues) × Records old (Refused TooManyValues) new

-- a message with this value was received
abbrev pub Receives : AgentView → Value → AgentView → Type 0
Receives old v new = (s : ℕ) × (need old ≡ asks_message s) × IsNext old (Received s v) × Records old (Received s v) new

-- the due command was done with this answer
abbrev pub DoesWith : AgentView → Answer → AgentView → Type 0
DoesWith old r new = (e : Event) × IsDone old r e × IsNext old e × Records old e new

-- the job that waited was skipped
abbrev pub Skips : AgentView → AgentView → Type 0
Skips old new = (n s : ℕ) × (due old.plan old.history ≡ receive n s) × IsNext old (Skipped n s) × Records old (Skipped n s) new
