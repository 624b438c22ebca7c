use Rattle.std.proofs.Common.{◌≡◌, take}
use Rattle.es_cluster.specs.State.{cores, names_of}
use Rattle.es_turns.proofs.chronicle.names_of.Given as goal

abbrev pub invariant-loop-member : goal.invariant-loop-member
invariant-loop-member g l = l.names.items ≡ names_of (cores (take l.member-index l.members))
