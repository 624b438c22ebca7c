use Rattle.es_why.specs.Lines.{kept_line}
use Rattle.es_why.proofs.Ranged.{written_push}
use Rattle.es_why.proofs.root.write_kept_ids.Goals as goal

pub loop-id-preserved : goal.loop-id-preserved
loop-id-preserved g c = written_push kept_line c.args.ids.now c.loop-id.id-index c.id-item.result _ _ _ c.loop-id-test.true c.id-item.is c.loop-id.invariant c.in_ok-write_kept_id.ensures
