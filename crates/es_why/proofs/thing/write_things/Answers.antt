use Rattle.std.proofs.Common.{arith}
use Rattle.es_why.specs.Picture.{thing_at}
use Rattle.es_why.proofs.Ranged.{written_more}
use Rattle.es_why.proofs.thing.write_things.Goals as goal

pub loop-before-preserved : goal.loop-before-preserved
loop-before-preserved g c =
    written_more (thing_at c.args.agent.now.history) c.loop-before.before c.of-id.result _ _ _ (omega (arith, c.of-id.ensures)) c.loop-before.invariant c.in_ok-write_thing_at.ensures
