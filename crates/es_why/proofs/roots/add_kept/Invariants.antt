use Rattle.std.proofs.Common.{◌≡◌, ℕ, ◌++◌, Some, take}
use Rattle.es_mark.specs.declared.step.Step.TheVariants.{Kept}
use Rattle.es_why.specs.Numbered.{numbered}
use Rattle.es_why.proofs.roots.add_kept.Given as goal

abbrev pub invariant-loop-id : goal.invariant-loop-id
invariant-loop-id l = l.found.items ≡ l.initial.found.items ++ numbered (Some) (λ (n : ℕ). Kept) (take l.id-index l.id-items)
