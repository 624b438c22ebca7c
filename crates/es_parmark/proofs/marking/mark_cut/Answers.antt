use Rattle.std.proofs.Common.{arith}
use Rattle.es_mark.proofs.Whole.{begins, ends, ends_numbered}
use Rattle.es_parmark.proofs.marking.mark_cut.Goals as goal

pub queue-init : goal.queue-init
queue-init g c =
    let edges = g.G.Graph.has_edges c.args.graph.now in
    let entries = g.G.Graph.has_entries c.args.graph.now in
    begins _ edges entries _ _ _ _ _ (omega (arith, c.in_ok-reached.ensures.room, c.made.ensures, c.in_ok-add_all.ensures.room))
    c.new-waiting.ensures c.in_ok-find_roots.ensures
    (rw (c.as_slice.ensures.value, c.in_ok-reached.ensures.none) at c.in_ok-add_all.ensures.added)

pub returns-clause-least : goal.returns-clause-least
returns-clause-least g c =
    let edges = g.G.Graph.has_edges c.args.graph.now in
    let entries = g.G.Graph.has_entries c.args.graph.now in
    ends _ edges entries _ _ _ _ _ c.queue.invariant c.queue.reached.listed (omega (arith, c.queue-test.false))

pub returns-clause-made : goal.returns-clause-made
returns-clause-made g c =
    let edges = g.G.Graph.has_edges c.args.graph.now in
    let entries = g.G.Graph.has_entries c.args.graph.now in
    ends_numbered _ edges entries _ _ _ _ _ c.queue.invariant c.queue.reached.listed (omega (arith, c.queue-test.false))
