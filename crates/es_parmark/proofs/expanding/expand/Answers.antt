use Rattle.std.proofs.lemmas.List.{take_more, take_all}
use Rattle.es_parmark.proofs.Gathering.{part_nothing, part_next}
use Rattle.es_parmark.proofs.expanding.expand.Goals as goal

pub loop-id-init : goal.loop-id-init
loop-id-init g c =
    let edges = g.G.Graph.has_edges c.args.graph.now in
    let entries = g.G.Graph.has_entries c.args.graph.now in
    part_nothing _ _ edges entries _ _ c.new.ensures.items c.new-2.ensures.items

pub loop-id-preserved : goal.loop-id-preserved
loop-id-preserved g c =
    let edges = g.G.Graph.has_edges c.args.graph.now in
    let entries = g.G.Graph.has_entries c.args.graph.now in
    rw (take_more _ _ c.id-item.result c.loop-id-test.true, ← c.id-item.is)
    (part_next _ _ edges entries _ _ _ _ _ _ c.loop-id.invariant c.in_ok-expand_one.ensures.ids c.in_ok-expand_one.ensures.pairs)

pub returns : goal.returns
returns g c = rw (take_all c.loop-id.id-index c.args.piece.now c.loop-id-test.false) at c.loop-id.invariant
