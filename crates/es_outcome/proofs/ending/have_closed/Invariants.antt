use Rattle.std.proofs.Common.{◌≡◌, ◌<◌, ℕ, Some, true}
use Rattle.std.specs.Prelude.{slice_get}
use Rattle.es_record.specs.AgentView.{AgentView}
use Rattle.es_cluster.specs.Moves.{is_over}
use Rattle.es_cluster.specs.State.{cores}
use Rattle.es_outcome.proofs.ending.have_closed.Given as goal

abbrev pub invariant-loop-place : goal.invariant-loop-place
invariant-loop-place g l = (n : ℕ) (b : AgentView) → n < l.place → slice_get (cores l.members) n ≡ Some b → is_over b ≡ true
