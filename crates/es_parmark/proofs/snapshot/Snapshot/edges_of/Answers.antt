use Rattle.es_mark.specs.Made.{is_made}
use Rattle.es_parmark.proofs.Rows.{row_passes}
use Rattle.es_parmark.proofs.snapshot.Snapshot.edges_of.Goals as goal

pub returns-clause-made : goal.returns-clause-made
returns-clause-made c = rw (← c.self.view_is, c.row_of.ensures, c.as_slice.ensures.value, c.as_slice-2.ensures.value) (row_passes (is_made c.self.inside.made) c.self.inside.ends.items c.self.inside.targets.items c.args.id c.self.invariant.targets_made)
