use Rattle.es_why.specs.Picture.{set_at}
use Rattle.es_why.proofs.Ranged.{written_push}
use Rattle.es_why.proofs.around.write_sets.Goals as goal

pub loop-set-preserved : goal.loop-set-preserved
loop-set-preserved g c = written_push (set_at c.args.member) c.args.sets.now c.loop-set.set-index c.set-item.result _ _ _ c.loop-set-test.true c.set-item.is c.loop-set.invariant c.in_ok-write_weak.ensures
