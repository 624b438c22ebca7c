use Rattle.std.proofs.Common.{arith}
use Rattle.es_mark.specs.declared.step.Step.TheVariants.{Held}
use Rattle.es_record.specs.Leading.{held_of}
use Rattle.es_why.proofs.Numbered.{numbered_more}
use Rattle.es_why.proofs.roots.add_held.Goals as goal

pub loop-before-preserved : goal.loop-before-preserved
loop-before-preserved c =
    numbered_more (held_of c.args.agent.now.history) Held 1 c.loop-before.before _ _ _ _ _ (omega arith) c.loop-before.invariant c.held_of.ensures c.in_ok-add.ensures
