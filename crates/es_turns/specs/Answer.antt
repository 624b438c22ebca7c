-- To believe: the answer to a plan, and to the bytes of one.
use Rattle.std.specs.Prelude.{ℕ, ◌≡◌, ⊤, Bool, true, false, List, codes}
use Rattle.es_event.specs.declared.outcome.Outcome.{Outcome}
use Rattle.es_event.specs.declared.plan.Plan.{Plan}
use Rattle.es_event.specs.Report.{report}
use Rattle.es_cluster.specs.Ends.{EndsIn}
use Rattle.es_cluster.specs.Moves.{RunsToEnd}
use Rattle.es_cluster.specs.State.{ClusterView, first_state}
use Rattle.es_outcome.specs.Outcomes.{IsClusterOutcome}
use Rattle.es_script.specs.Fault.{IsPlanOf}

-- the outcome is what a cluster comes to by turns: by moves, each of the lowest-numbered agent that can move, to the end of all agents
abbrev pub EndsByTurns : ClusterView → Outcome → Type 0
EndsByTurns from o = (c : ClusterView) × RunsToEnd from c × EndsIn c o

-- the outcome is that of the plan's run by turns, from its first state
abbrev pub IsByTurns : Plan → Outcome → Type 0
IsByTurns p o = EndsByTurns (first_state p) o

-- how the agents ran: by turns, or in any order
abbrev pub RanBy : (turns : Bool) → Plan → Outcome → Type 0
RanBy true p o = IsByTurns p o
RanBy false p o = ⊤

-- `ok` where the plan is only checked, and else the report of an outcome of its cluster, by turns where that was asked for
abbrev pub IsAnswer : (check turns : Bool) → Plan → List ℕ → Type 0
IsAnswer true turns p text = text ≡ codes "ok\n"
IsAnswer false turns p text = (o : Outcome) × IsClusterOutcome p o × RanBy turns p o × (text ≡ report o)

-- the answer to the plan that the bytes stand for, by turns
abbrev pub IsAnswerTo : Bool → List ℕ → List ℕ → Type 0
IsAnswerTo check bytes text = (p : Plan) × IsPlanOf bytes p × IsAnswer check true p text

-- the report of what a cluster of this plan, however far its agents are, comes to by turns
abbrev pub IsReportOfRest : Plan → ClusterView → List ℕ → Type 0
IsReportOfRest p from text = (o : Outcome) × IsClusterOutcome p o × EndsByTurns from o × (text ≡ report o)
