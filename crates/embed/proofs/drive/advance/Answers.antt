use Rattle.embed.proofs.Stepping.{one_stepped}
use Rattle.embed.proofs.drive.advance.Goals as goal

pub loop-taken-preserved : goal.loop-taken-preserved
loop-taken-preserved g c =
    one_stepped c.args.agent.now c.loop-taken.agent c.step.new.agent c.args.outside.now c.loop-taken.outside c.step.new.outside c.loop-taken.taken c.in_ok-step.field-0 c.if-not-branch.false c.loop-taken.invariant c.in_ok-step.ensures.ok
