-- Internal: what is kept of a watcher while a run goes on.
use Rattle.std.specs.Prelude.{ℕ, Option, Some, None}
use Rattle.es_cluster.specs.declared.moving.Begun.{Begun}
use Rattle.es_cluster.specs.State.{ClusterView}
use Rattle.es_cluster.specs.Watched.{TakenTurn, IsTold, busy}

-- it was told of what led from the one cluster to the other, and knows the other
pub record IsKept {W : Type 0} (knows : ClusterView → W → Type 0) (tells : TakenTurn → W → W → Type 0) (first last : Option ℕ) (old new : ClusterView) (was now : W) : Type 0 where
  pub known : knows new now
  pub told : IsTold tells first last old new was now

-- whose move is under way after the first turn of the next move, if there is one
abbrev pub begun : Option Begun → ClusterView → Option ℕ
begun None c = None
begun (Some b) c = busy b.agent c
