use Rattle.es_parmark.proofs.PairLists.{finds_pairs}
use Rattle.std.proofs.lemmas.Result.{on_ok_weaker}
use Rattle.es_parmark.specs.Snapshot.{pairs_of}
use Rattle.es_parmark.proofs.snapshot.SnapshotGraph.entries.Goals as goal

pub returns : goal.returns
returns c = on_ok_weaker c.add_values.result (λ e. finds_pairs _ (pairs_of c.args.self.now c.args.id) _ _ (rw c.entries_of.ensures.row at e) (rw c.entries_of.ensures.row at c.entries_of.ensures.made)) c.add_values.ensures
