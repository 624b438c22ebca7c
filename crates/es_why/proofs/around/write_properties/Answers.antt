use Rattle.es_why.specs.Picture.{property_at}
use Rattle.es_why.proofs.Ranged.{written_push}
use Rattle.es_why.proofs.around.write_properties.Goals as goal

pub loop-key-preserved : goal.loop-key-preserved
loop-key-preserved g c = written_push (property_at c.args.agent.now.history c.args.object) c.args.keys.now c.loop-key.key-index c.key-item.result _ _ _ c.loop-key-test.true c.key-item.is c.loop-key.invariant c.in_ok-write_property_at.ensures
