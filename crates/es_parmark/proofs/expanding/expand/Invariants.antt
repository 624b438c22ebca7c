use Rattle.std.proofs.Common.{take}
use Rattle.es_parmark.specs.Gathered.{IsPart}
use Rattle.es_parmark.proofs.expanding.expand.Given as goal

abbrev pub invariant-loop-id : goal.invariant-loop-id
invariant-loop-id g l =
    IsPart (g.G.Graph.made_of l.graph) l.marks (g.G.Graph.has_edges l.graph) (g.G.Graph.has_entries l.graph) (take l.id-index l.piece) l.part.ids.items l.part.pairs.items
