use Rattle.std.proofs.Common.{◌≡◌, ◌<◌, ℕ, Some, map}
use Rattle.std.specs.Prelude.{slice_get}
use Rattle.es_record.specs.AgentView.{AgentView}
use Rattle.es_cluster.specs.State.{cores}
use Rattle.es_run.proofs.auditing.are_at_places.Given as goal

abbrev pub invariant-loop-member : goal.invariant-loop-member
invariant-loop-member g l = record {
  same : map (λ m. m.now) l.members ≡ map (λ m. m.now) l.initial.members;
  place : l.place ≡ l.member-index;
  each : (n : ℕ) (b : AgentView) → n < l.member-index → slice_get (cores (map (λ m. m.now) l.initial.members)) n ≡ Some b → b.number ≡ n;
}
