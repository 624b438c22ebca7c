use Rattle.es_parmark.proofs.Rows.{finds_list}
use Rattle.es_parmark.specs.Snapshot.{targets_of}
use Rattle.std.proofs.Common.{ap, ◌++◌, ◌∙◌}
use Rattle.es_parmark.proofs.snapshot.SnapshotGraph.edges.Goals as goal

pub returns : goal.returns
returns c = finds_list _ (targets_of c.args.self.now c.args.id) _ _ (c.in_ok-extend_from_slice.ensures.items ∙ ap (λ l. c.args.found.now.items ++ l) c.edges_of.ensures.row) (rw c.edges_of.ensures.row at c.edges_of.ensures.made)
