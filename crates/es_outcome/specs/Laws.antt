-- To believe: what is said of outcomes as a whole; the contract of a function that does nothing.
use Rattle.std.specs.Prelude.{⊤, List, [], ◌∷◌, reverse}
use Rattle.es_event.specs.declared.event.Event.{Event}
use Rattle.es_event.specs.declared.outcome.Outcome.{Outcome}
use Rattle.es_event.specs.declared.plan.AgentPlan.{AgentPlan}
use Rattle.es_event.specs.declared.plan.Plan.{Plan}
use Rattle.es_event.specs.Jobs.{receivers}
use Rattle.es_event.specs.Live.{Honest}
use Rattle.es_outcome.specs.Outcomes.{IsClusterOutcome}

-- each history, the oldest event first, is of the plan in its place, and every set that was emptied in it was not live then
abbrev pub AreHonest : List AgentPlan → List (List Event) → Type 0
AreHonest [] [] = ⊤
AreHonest (p ∷ ps) (h ∷ hs) = Honest (receivers p.jobs) (reverse h) × AreHonest ps hs
AreHonest _ _ = ⊥

-- Of what a plan's agents came to, in threads or by turns: every set that one of them emptied was not live then.
abbrev pub NothingThatAnAgentEmptiedWasLive : Type 0
NothingThatAnAgentEmptiedWasLive = (plan : Plan) (o : Outcome) → IsClusterOutcome plan o → AreHonest plan.agents o.histories
