-- Plans with nothing to do: one without jobs, with its whole report, and one whose job has no commands.
use Rattle.std.proofs.Common.{◌≡◌, refl, [], ◌∷◌, codes, rules}
use Rattle.std.specs.Prelude.{reverse}
use Rattle.std.specs.Fmt.{digits}
use Rattle.es_event.specs.declared.event.Event.TheVariants.{JobBegun, JobEnded, Closed}
use Rattle.es_event.specs.declared.ledger_event.LedgerEvent.TheVariants.{Acted}
use Rattle.es_event.specs.declared.ledger_event.Act.TheVariants.{Ended}
use Rattle.es_event.specs.declared.outcome.Outcome.{Outcome}
use Rattle.es_event.specs.declared.plan.AgentPlan.{AgentPlan}
use Rattle.es_event.specs.declared.plan.Plan.{Plan}
use Rattle.es_event.specs.History.{History}
use Rattle.es_event.specs.Runs.{IsWholeRun, IsOutcome}
use Rattle.es_event.specs.Report.{report}
use Rattle.es_event.proofs.Examples.{plan_of}
use Rattle.es_laws.proofs.Worked.{IsWorked}

-- No jobs

abbrev pub idle : AgentPlan
idle = plan_of []

abbrev pub closed : History
closed = Closed ∷ []

pub whole : IsWholeRun idle closed
whole = ([], search rules, search rules)

-- The whole cluster

abbrev pub plan : Plan
plan = record { agents = idle ∷ [] }

abbrev pub completion : Outcome
completion = record { names = codes "a" ∷ []; histories = reverse closed ∷ []; ledger = Acted 0 Ended ∷ [] }

pub is_outcome : IsOutcome plan completion
is_outcome = record { names = refl; runs = (whole, tt) }

pub reported : report completion ≡ codes "agent a\nend live 0 awaiting 0 unregistered 0 taken 0\ncluster\nblocks 0 released 0\nmessages posted 0 taken 0 drained 0\n"
unfolding digits
reported = refl

-- A job without commands begins and ends

abbrev pub without_commands : AgentPlan
without_commands = plan_of ([] ∷ [])

abbrev pub begun_and_ended : History
begun_and_ended = Closed ∷ JobEnded ∷ JobBegun 1 ∷ []

pub worked_without_commands : IsWorked [] without_commands begun_and_ended (codes "agent a\nend live 0 awaiting 0 unregistered 0 taken 0\n")
unfolding digits
worked_without_commands = record { whole = (search rules, search rules); report = refl }
