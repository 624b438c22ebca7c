use Rattle.std.proofs.Common.{◌-◌, ◌<◌, ◌≡◌, length}
use Rattle.es_mark.proofs.Whole.{Marking}
use Rattle.es_parmark.proofs.marking.follow_few.Given as goal

abbrev pub invariant-few : goal.invariant-few
invariant-few g l =
    (l.from < l.followed)
    × (length l.reached.marks ≡ length l.fn.reached.marks)
    × Marking (g.G.Graph.has_roots l.graph) (g.G.Graph.has_edges l.graph) (g.G.Graph.has_entries l.graph) (g.G.Graph.made_of l.graph) l.followed l.reached.marks l.reached.order.items l.waiting

abbrev pub decreases-few : goal.decreases-few
decreases-few g l = length l.reached.marks - l.followed
