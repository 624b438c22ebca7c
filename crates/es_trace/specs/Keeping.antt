-- To believe: what the writer of an agent's rows keeps, and what that says.
use Rattle.std.specs.Prelude.{ℕ, ◌≡◌, List}
use Rattle.es_event.specs.declared.plan.AgentPlan.{AgentPlan}
use Rattle.es_event.specs.History.{History}
use Rattle.es_trace.specs.declared.scribe.Scribe.{Scribe}
use Rattle.es_trace.specs.Callbacks.{Told}
use Rattle.es_trace.specs.Columns.{label, widest}
use Rattle.es_trace.specs.Places.{IsPlace}

-- the agent's name in its column, where its history leads it, and which callbacks its registries have
pub record Keeps (names : List (List ℕ)) (plan : AgentPlan) (h : History) (s : Scribe) : Type 0 where
  pub name : s.label.items ≡ label (widest 1 names) plan.name
  pub place : IsPlace plan h s.place
  pub told : Told h s.callbacks
