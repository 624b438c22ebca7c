use Rattle.std.proofs.Common.{arith}
use Rattle.es_mark.specs.declared.step.Step.TheVariants.{Property}
use Rattle.es_record.specs.Leading.{property_at}
use Rattle.es_why.proofs.Numbered.{numbered_more}
use Rattle.es_why.proofs.roots.add_at_keys.Goals as goal

pub loop-place-preserved : goal.loop-place-preserved
loop-place-preserved c =
    numbered_more (property_at c.args.agent.now.history c.args.object) (Property c.args.object) 0 c.loop-place.place c.loop-place.place _ _ _ _ (omega arith) c.loop-place.invariant c.property_at-id.ensures
    c.in_ok-add.ensures
