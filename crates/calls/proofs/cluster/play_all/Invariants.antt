use Rattle.std.proofs.Common.{◌≡◌}
use Rattle.es_cluster.specs.State.{plans}
use Rattle.calls.proofs.cluster.play_all.Given as goal

abbrev pub invariant-loop-digit : goal.invariant-loop-digit
invariant-loop-digit g l = record { plans : plans l.cluster.agents ≡ plans l.fn.cluster.agents }
