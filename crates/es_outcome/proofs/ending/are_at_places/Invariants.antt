use Rattle.std.proofs.Common.{◌≡◌, ◌<◌, ℕ, Some}
use Rattle.std.specs.Prelude.{slice_get}
use Rattle.es_cluster.specs.Members.{IsPlanned}
use Rattle.es_record.specs.AgentView.{AgentView}
use Rattle.es_cluster.specs.State.{cores}
use Rattle.es_outcome.proofs.ending.are_at_places.Given as goal

abbrev pub invariant-loop-place : goal.invariant-loop-place
invariant-loop-place g l = record {
  placed : (n : ℕ) (b : AgentView) → n < l.place → slice_get (cores l.members) n ≡ Some b → b.number ≡ n;
  planned : (n : ℕ) (b : AgentView) → n < l.place → slice_get (cores l.members) n ≡ Some b → IsPlanned g.L.Planned.plan b;
}
