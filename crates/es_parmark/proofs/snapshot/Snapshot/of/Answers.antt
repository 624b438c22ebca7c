use Rattle.es_parmark.proofs.Rows.{copy_sound, copy_of}
use Rattle.es_parmark.proofs.snapshot.Snapshot.of.Goals as goal

pub invariant_of-result : goal.invariant_of-result
invariant_of-result g c =
    let roots = g.G.Graph.has_roots c.args.graph.now in
    let edges = g.G.Graph.has_edges c.args.graph.now in
    let entries = g.G.Graph.has_entries c.args.graph.now in
    copy_sound c.made-made.result roots edges entries _ _ _ _ _ (rw (c.made-made.ensures) (rw c.new-roots.ensures.items at c.in_ok-roots.ensures)) c.in_ok-ends.ensures c.in_ok-stops.ensures

pub returns : goal.returns
returns g c =
    let roots = g.G.Graph.has_roots c.args.graph.now in
    let edges = g.G.Graph.has_edges c.args.graph.now in
    let entries = g.G.Graph.has_entries c.args.graph.now in
    rw (← c.made-made.ensures)
    (copy_of c.made-made.result roots edges entries _ _ _ _ _ (rw (c.made-made.ensures) (rw c.new-roots.ensures.items at c.in_ok-roots.ensures)) c.in_ok-ends.ensures c.in_ok-stops.ensures)
