use Rattle.std.proofs.Common.{◌-◌, length}
use Rattle.es_mark.specs.Graph.{HasAll}
use Rattle.es_mark.proofs.Whole.{Marking}
use Rattle.es_parmark.specs.Snapshot.{CopyHasRoots, CopyHasEdges, CopyHasEntries}
use Rattle.es_parmark.proofs.more.mark_from.Given as goal

abbrev pub invariant-queue : goal.invariant-queue
invariant-queue l =
    Marking (λ t. CopyHasRoots l.snapshot t × HasAll l.more t) (CopyHasEdges l.snapshot) (CopyHasEntries l.snapshot) l.snapshot.made l.followed l.reached.marks l.reached.order.items l.waiting

abbrev pub decreases-queue : goal.decreases-queue
decreases-queue l = length l.reached.marks - l.followed
