use Rattle.std.proofs.Common.{arith}
use Rattle.es_parmark.proofs.Rows.{rows_found}
use Rattle.es_parmark.proofs.snapshot.edge_rows.Goals as goal

pub loop-number-preserved : goal.loop-number-preserved
loop-number-preserved g c =
    let asked = g.G.Graph.has_edges c.args.graph.now in
    rows_found _ _ asked _ _ c.len.result _ _ _ _ c.loop-number.invariant c.requires c.of.ensures c.in_ok-edges.ensures (omega (arith, c.len.ensures, c.edges.new.found.ok.0)) c.in_ok-push-2.ensures.items
