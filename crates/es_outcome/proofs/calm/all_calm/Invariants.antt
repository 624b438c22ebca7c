use Rattle.std.proofs.Common.{◌≡◌, map, take}
use Rattle.es_cluster.specs.State.{cores}
use Rattle.es_outcome.specs.Said.{is_calm}
use Rattle.es_outcome.proofs.calm.all_calm.Given as goal

abbrev pub invariant-loop-place : goal.invariant-loop-place
invariant-loop-place g l = l.all.items ≡ map is_calm (take l.place (cores l.members))
