use Rattle.std.proofs.Common.{arith}
use Rattle.es_why.proofs.Ranged.{around_none, around_more}
use Rattle.es_why.proofs.around.write_around_each.Goals as goal

pub loop-before-init : goal.loop-before-init
loop-before-init g c = around_none c.args.agent.now.history _

pub loop-before-preserved : goal.loop-before-preserved
loop-before-preserved g c =
    around_more c.args.agent.now.history c.loop-before.before c.of-id.result _ _ _ (omega (arith, c.of-id.ensures)) c.loop-before.invariant c.in_ok-write_around_at.ensures
