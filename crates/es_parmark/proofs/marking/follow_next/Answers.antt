use Rattle.es_mark.proofs.Whole.{goes_on}
use Rattle.es_parmark.proofs.marking.follow_next.Goals as goal

pub returns-clause-marking : goal.returns-clause-marking
returns-clause-marking g c =
    let edges = g.G.Graph.has_edges c.args.graph.now in
    let entries = g.G.Graph.has_entries c.args.graph.now in
    goes_on _ edges entries _ _ _ _ _ _ _ _ _ c.requires.marking c.requires.at c.index-id.ensures c.in_ok-follow.ensures.followed c.in_ok-follow.ensures.room
