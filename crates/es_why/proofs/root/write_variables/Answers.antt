use Rattle.es_why.specs.Picture.{variable_at}
use Rattle.es_why.proofs.Ranged.{written_push}
use Rattle.es_why.proofs.root.write_variables.Goals as goal

pub loop-name-preserved : goal.loop-name-preserved
loop-name-preserved g c = written_push (variable_at c.args.agent.now) c.args.names.now c.loop-name.name-index c.name-item.result _ _ _ c.loop-name-test.true c.name-item.is c.loop-name.invariant c.in_ok-write_variable_at.ensures
