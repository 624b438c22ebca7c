use Rattle.std.proofs.Common.{ℕ, Some, refl}
use Rattle.std.proofs.lemmas.List.{take_more}
use Rattle.es_mark.specs.declared.step.Step.TheVariants.{Kept}
use Rattle.es_why.proofs.Numbered.{numbered_push}
use Rattle.es_why.proofs.roots.add_kept.Goals as goal

pub loop-id-preserved : goal.loop-id-preserved
loop-id-preserved c =
    rw (take_more _ _ c.id-item.result c.loop-id-test.true, ← c.id-item.is)
    (numbered_push Some (λ (n : ℕ). Kept) _ c.id-item.result _ _ _ _ c.loop-id.invariant refl c.in_ok-add.ensures)
