use Rattle.std.proofs.Common.{◌≡◌, arith, length}
use Rattle.es_parmark.proofs.Fronts.{goes_on, part_end}
use Rattle.es_parmark.proofs.marking.advance.Goals as goal

pub returns-clause-marking : goal.returns-clause-marking
returns-clause-marking g c =
    let edges = g.G.Graph.has_edges c.args.graph.now in
    let entries = g.G.Graph.has_entries c.args.graph.now in
    let all : c.len-next.result ≡ length c.args.reached.now.order.items = omega (arith, c.len-next.ensures) in
    goes_on _ edges entries _ c.args.from c.len-next.result _ _ _ _ _ _ c.requires.marking (omega (arith, c.requires.from, c.len-next.ensures)) (omega (arith, c.len-next.ensures))
    (rw (part_end c.args.reached.now.order.items c.args.from c.len-next.result all) c.in_ok-spread.ensures.followed) c.in_ok-spread.ensures.room
