use Rattle.std.proofs.Common.{◌≡◌, true}
use Rattle.es_mark.specs.Made.{is_made}
use Rattle.es_parmark.specs.Copying.{AreRows}
use Rattle.es_parmark.proofs.snapshot.entry_rows.Given as goal

abbrev pub invariant-loop-number : goal.invariant-loop-number
invariant-loop-number g l = AreRows (λ p. is_made l.made p.1) (g.G.Graph.has_entries l.graph) (λ t p. t p.0 ≡ true → t p.1 ≡ true) l.number l.stops.items l.pairs.items
