use Rattle.std.proofs.Common.{ℕ, arith}
use Rattle.es_mark.specs.declared.step.Step.TheVariants.{Registry}
use Rattle.es_why.specs.Numbered.{registry_if}
use Rattle.es_why.proofs.Numbered.{numbered_more}
use Rattle.es_why.proofs.roots.add_registries.Goals as goal

pub loop-before-preserved : goal.loop-before-preserved
loop-before-preserved c =
    numbered_more (registry_if c.args.agent.now.history) (λ (n : ℕ). Registry) 1 c.loop-before.before c.of-id.result _ _ _ _ (omega (arith, c.of-id.ensures)) c.loop-before.invariant
    c.registry_at.ensures c.in_ok-add.ensures
