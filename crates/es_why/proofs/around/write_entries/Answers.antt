use Rattle.es_why.specs.Picture.{entry_at}
use Rattle.es_why.proofs.Ranged.{written_push}
use Rattle.es_why.proofs.around.write_entries.Goals as goal

pub loop-entry-preserved : goal.loop-entry-preserved
loop-entry-preserved g c =
    written_push (entry_at c.args.key) c.args.entries.now c.loop-entry.entry-index c.entry-item.result _ _ _ c.loop-entry-test.true c.entry-item.is c.loop-entry.invariant
    (rw c.identity.ensures at c.in_ok-write_entry.ensures)
