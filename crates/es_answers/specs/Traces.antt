-- To believe: what is said of traces as a whole. Each law is the contract of a function of its name that does nothing.
use Rattle.std.specs.Prelude.{ℕ, ◌≡◌, ◌<◌, ◌==◌, true, List, [], ◌∷◌, ◌++◌, Option, Some, None, length, slice_get, slice_index_or, take, if◌then◌else◌}
use Rattle.std.specs.List.{AllByRecursion}
use Rattle.es_event.specs.declared.event.Event.{Event}
use Rattle.es_event.specs.declared.outcome.Outcome.{Outcome}
use Rattle.es_event.specs.declared.plan.Plan.{Plan}
use Rattle.es_event.specs.LegalLedger.{LegalLedger}
use Rattle.es_event.specs.Others.{all_name_others}
use Rattle.es_event.specs.Report.{line}
use Rattle.es_cluster.specs.declared.member.Progress.{Progress}
use Rattle.es_cluster.specs.declared.member.Progress.TheVariants.{Moved, Waiting, Ended}
use Rattle.es_record.specs.AgentView.{AgentView}
use Rattle.es_cluster.specs.Ends.{EndsIn}
use Rattle.es_cluster.specs.Moves.{with_drained}
use Rattle.es_cluster.specs.Watched.{TakenTurn}
use Rattle.es_theorems.specs.Moving.{moves_of}
use Rattle.es_outcome.specs.Outcomes.{IsClusterOutcome}
use Rattle.es_options.specs.declared.view.View.{View}
use Rattle.es_turns.specs.Answer.{IsByTurns}
use Rattle.es_trace.specs.Events.{answer_text}
use Rattle.es_turns.specs.Tracing.{IsTraceByTurns}

-- A trace is of a run that the rules allow: after each of its turns the ledger's history is legal.
abbrev pub ATraceIsOfALegalRun : Type 0
ATraceIsOfALegalRun = (v : View) (plan : Plan) (text : List ℕ) (trace : IsTraceByTurns v plan text) → AllByRecursion (λ (t : TakenTurn). LegalLedger t.after.ledger.agents t.after.ledger.history) trace.turns

-- What its turns led to is an outcome of the plan by turns, once the messages are out that nobody took.
abbrev pub ATraceHasAnOutcome : Type 0
ATraceHasAnOutcome =
    (v : View) (plan : Plan) (text : List ℕ) → all_name_others plan ≡ true → (trace : IsTraceByTurns v plan text) → (o : Outcome) × EndsIn (with_drained trace.end) o × IsByTurns plan o

-- And it is an outcome of agents that run beside each other: what a trace tells may happen in threads too.
abbrev pub ATraceIsOfAnOutcome : Type 0
ATraceIsOfAnOutcome = (v : View) (plan : Plan) (text : List ℕ) (trace : IsTraceByTurns v plan text) (o : Outcome) → EndsIn (with_drained trace.end) o → IsClusterOutcome plan o

-- the event that an agent got in a turn, if it moved
abbrev pub newest_event : Progress → Option AgentView → List Event
newest_event Moved (Some b) = take 1 b.history
newest_event Moved None = []
newest_event Waiting o = []
newest_event Ended o = []

-- the events that agent n got in these turns, the oldest first
abbrev pub events_by : ℕ → List TakenTurn → List Event
events_by n [] = []
events_by n (t ∷ ts) = (if t.agent == n then newest_event t.progress (slice_get t.after.agents n) else []) ++ events_by n ts

-- The events that a trace tells of an agent are those of its history in each outcome of the plan by turns, in their order.
abbrev pub ATraceTellsThePlansOutcome : Type 0
ATraceTellsThePlansOutcome =
    (v : View) (plan : Plan) (text : List ℕ) (trace : IsTraceByTurns v plan text) (o : Outcome) (n : ℕ) → IsByTurns plan o → n < length plan.agents
    → events_by n trace.turns ≡ slice_index_or o.histories n []

-- And the answer in the row of an event that has a line in the report is that line. So the rows that are lines of a report are the report's.
abbrev pub AnAnswerIsTheReportsLine : Type 0
AnAnswerIsTheReportsLine = (e : Event) → (line e ≡ [] → ⊥) → answer_text e ≡ line e

-- Two traces of one plan, whatever each shows, tell the same moves, one after the other.
abbrev pub TracesHaveOneRun : Type 0
TracesHaveOneRun = (v w : View) (plan : Plan) (s t : List ℕ) (one : IsTraceByTurns v plan s) (other : IsTraceByTurns w plan t) → moves_of one.turns ≡ moves_of other.turns
