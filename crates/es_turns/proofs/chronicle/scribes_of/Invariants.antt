use Rattle.std.proofs.Common.{take}
use Rattle.es_cluster.specs.State.{cores}
use Rattle.es_turns.specs.Known.{HaveScribes}
use Rattle.es_turns.proofs.chronicle.scribes_of.Given as goal

abbrev pub invariant-loop-member : goal.invariant-loop-member
invariant-loop-member g l = HaveScribes l.names (cores (take l.member-index l.members)) l.scribes.items
