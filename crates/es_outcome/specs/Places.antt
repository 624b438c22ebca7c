-- To believe: that agents stand in order, that each has its plan, and that one has not ended.
use Rattle.std.specs.Prelude.{ℕ, ◌≡◌, false, List, Some, slice_get}
use Rattle.es_event.specs.declared.plan.Plan.{Plan}
use Rattle.es_event.specs.Runs.{IsRunOver}
use Rattle.es_record.specs.AgentView.{AgentView}
use Rattle.es_cluster.specs.Moves.{is_over}
use Rattle.es_cluster.specs.Members.{IsPlanned}

-- each is at the place of its number, counted from 0
abbrev pub AreAtPlaces : List AgentView → Type 0
AreAtPlaces bs = (n : ℕ) (b : AgentView) → slice_get bs n ≡ Some b → b.number ≡ n

-- each has its plan of the whole one
abbrev pub ArePlanned : Plan → List AgentView → Type 0
ArePlanned p bs = (n : ℕ) (b : AgentView) → slice_get bs n ≡ Some b → IsPlanned p b

-- one of them is a run so far that has not come to its end
pub record SomeGoesOn (bs : List AgentView) : Type 0 where
  pub number : ℕ
  pub core : AgentView
  pub here : slice_get bs number ≡ Some core
  pub run : IsRunOver core.over core.plan core.history
  pub going : is_over core ≡ false
