use Rattle.std.proofs.Common.{arith}
use Rattle.es_mark.specs.declared.step.Step.TheVariants.{Variable}
use Rattle.es_why.specs.Leads.{variable_at}
use Rattle.es_why.proofs.Numbered.{numbered_more}
use Rattle.es_why.proofs.roots.add_variables.Goals as goal

pub loop-place-preserved : goal.loop-place-preserved
loop-place-preserved c =
    numbered_more (variable_at c.args.agent.now c.args.names.now) Variable 0 c.loop-place.place c.loop-place.place _ _ _ _ (omega arith) c.loop-place.invariant c.variable_at-id.ensures c.in_ok-add.ensures
