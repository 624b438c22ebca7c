use Rattle.es_parmark.proofs.Rows.{finds_list}
use Rattle.std.proofs.Common.{ap, ◌++◌, ◌∙◌}
use Rattle.es_parmark.proofs.snapshot.SnapshotGraph.roots.Goals as goal

pub returns : goal.returns
returns c = rw (← c.self.view_is) (finds_list c.self.inside.made c.self.inside.roots.items _ _ (c.in_ok-extend_from_slice.ensures.items ∙ ap (λ l. c.args.found.now.items ++ l) c.as_slice.ensures.value) c.self.invariant.roots_made)
