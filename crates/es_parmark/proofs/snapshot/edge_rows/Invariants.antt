use Rattle.std.proofs.Common.{◌≡◌, true}
use Rattle.es_mark.specs.Made.{is_made}
use Rattle.es_parmark.specs.Copying.{AreRows}
use Rattle.es_parmark.proofs.snapshot.edge_rows.Given as goal

abbrev pub invariant-loop-number : goal.invariant-loop-number
invariant-loop-number g l = AreRows (is_made l.made) (g.G.Graph.has_edges l.graph) (λ t i. t i ≡ true) l.number l.ends.items l.targets.items
