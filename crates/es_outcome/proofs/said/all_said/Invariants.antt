use Rattle.std.proofs.Common.{◌≡◌, map, take}
use Rattle.es_cluster.specs.State.{cores}
use Rattle.es_outcome.specs.Said.{said_by}
use Rattle.es_outcome.proofs.said.all_said.Given as goal

abbrev pub invariant-loop-place : goal.invariant-loop-place
invariant-loop-place g l = l.all.items ≡ map said_by (take l.place (cores l.members))
