-- To believe: what is said of every outcome of a run in threads; the contract of a function that does nothing.
use Rattle.std.specs.Prelude.{ℕ, ◌≡◌, true, List, reverse}
use Rattle.std.specs.List.{list_all}
use Rattle.es_event.specs.declared.outcome.Outcome.{Outcome}
use Rattle.es_event.specs.declared.plan.Plan.{Plan}
use Rattle.es_event.specs.Jobs.{callbacks_collect_nothing}
use Rattle.es_event.specs.Others.{all_name_others}
use Rattle.es_event.specs.Report.{report}
use Rattle.es_match.specs.Deeds.{part}
use Rattle.es_cluster.specs.Ends.{EndsIn}
use Rattle.es_cluster.specs.Moves.{RunsToEnd, all_over, with_drained}
use Rattle.es_cluster.specs.State.{ClusterView, first_state}
use Rattle.es_cluster.specs.Turns.{AllTurned}
use Rattle.es_theorems.specs.Alike.{SameEnd}
use Rattle.es_outcome.specs.Outcomes.{IsClusterOutcome}

-- turns of the plan's agents, one after the other and from the first, after which all have ended; and what that ends in, once the messages
-- that nobody took are taken out: the names and the histories of this outcome, and a ledger that tells the same, so the same report; and in
-- the ledger each agent did the same, in the same order, but for its waits and the beginnings of its sleeps
pub record ComesByTurns (p : Plan) (o : Outcome) : Type 0 where
  pub turns : List ℕ
  pub end : ClusterView
  pub turned : AllTurned turns (first_state p) end
  pub over : all_over end ≡ true
  pub outcome : Outcome
  pub ends : EndsIn (with_drained end) outcome
  pub same : SameEnd o outcome
  pub reported : report o ≡ report outcome
  pub parts : (a : ℕ) → part (reverse o.ledger) a ≡ part (reverse outcome.ledger) a

-- Whatever agents come to beside each other, they come to by turns too: threads refine turns.
abbrev pub ThreadsRefineTurns : Type 0
ThreadsRefineTurns = (plan : Plan) (o : Outcome) → IsClusterOutcome plan o → ComesByTurns plan o

-- And what turns come to, once all has been drained, is an outcome of agents that run beside each other.
abbrev pub TurnsAreOutcomes : Type 0
TurnsAreOutcomes = (plan : Plan) (turns : List ℕ) (end : ClusterView) (o : Outcome) → AllTurned turns (first_state plan) end → EndsIn (with_drained end) o → IsClusterOutcome plan o

-- So is what the plan's run by moves of the lowest-numbered agent that can move ends in: what a report by turns, and a trace, is of.
abbrev pub ByTurnsIsAnOutcome : Type 0
ByTurnsIsAnOutcome = (plan : Plan) (c : ClusterView) (o : Outcome) → RunsToEnd (first_state plan) c → EndsIn c o → IsClusterOutcome plan o

-- So each plan has an outcome, whose agents name others alone and whose callbacks collect nothing.
abbrev pub EachPlanHasAnOutcome : Type 0
EachPlanHasAnOutcome = (plan : Plan) → all_name_others plan ≡ true → list_all callbacks_collect_nothing plan.agents ≡ true → (o : Outcome) × IsClusterOutcome plan o

-- what turns of the plan end in is the same, whatever turns they are
abbrev pub TurnsEndAlike : Plan → Type 0
TurnsEndAlike plan =
    (ns ms : List ℕ) (c d : ClusterView) (o q : Outcome) → AllTurned ns (first_state plan) c → EndsIn (with_drained c) o → AllTurned ms (first_state plan) d → EndsIn (with_drained d) q → SameEnd o q

-- So where all turns of a plan end alike, all its runs in threads do: who asks whether threads can differ has to look at turns alone.
abbrev pub ThreadsEndAsTurnsDo : Type 0
ThreadsEndAsTurnsDo = (plan : Plan) (o q : Outcome) → TurnsEndAlike plan → IsClusterOutcome plan o → IsClusterOutcome plan q → SameEnd o q

-- what turns of the plan report is the same, whatever turns they are
abbrev pub TurnsReportAlike : Plan → Type 0
TurnsReportAlike plan =
    (ns ms : List ℕ) (c d : ClusterView) (o q : Outcome) → AllTurned ns (first_state plan) c → EndsIn (with_drained c) o → AllTurned ms (first_state plan) d → EndsIn (with_drained d) q → report o ≡ report q

-- The same of reports alone, which do not tell in which order blocks were opened.
abbrev pub ThreadsReportAsTurnsDo : Type 0
ThreadsReportAsTurnsDo = (plan : Plan) (o q : Outcome) → TurnsReportAlike plan → IsClusterOutcome plan o → IsClusterOutcome plan q → report o ≡ report q
