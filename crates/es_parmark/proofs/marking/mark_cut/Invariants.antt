use Rattle.std.proofs.Common.{◌-◌, length}
use Rattle.es_mark.proofs.Whole.{Marking}
use Rattle.es_parmark.proofs.marking.mark_cut.Given as goal

abbrev pub invariant-queue : goal.invariant-queue
invariant-queue g l =
    Marking (g.G.Graph.has_roots l.graph) (g.G.Graph.has_edges l.graph) (g.G.Graph.has_entries l.graph) (g.G.Graph.made_of l.graph) l.followed l.reached.marks l.reached.order.items l.waiting

abbrev pub decreases-queue : goal.decreases-queue
decreases-queue g l = length l.reached.marks - l.followed
