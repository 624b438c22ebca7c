use Rattle.std.proofs.Common.{ℕ}
use Rattle.es_mark.specs.Made.{is_made}
use Rattle.es_parmark.proofs.Rows.{row_passes}
use Rattle.es_parmark.proofs.snapshot.Snapshot.entries_of.Goals as goal

pub returns-clause-made : goal.returns-clause-made
returns-clause-made c = rw (← c.self.view_is, c.row_of.ensures, c.as_slice.ensures.value, c.as_slice-2.ensures.value) (row_passes (λ (p : ℕ × ℕ). is_made c.self.inside.made p.1) c.self.inside.stops.items c.self.inside.pairs.items c.args.id c.self.invariant.values_made)
