use Rattle.std.proofs.Common.{◌≡◌, ℕ, ◌++◌}
use Rattle.std.specs.List.{range_with_len}
use Rattle.es_mark.specs.declared.step.Step.TheVariants.{Registry}
use Rattle.es_why.specs.Numbered.{numbered, registry_if}
use Rattle.es_why.proofs.roots.add_registries.Given as goal

abbrev pub invariant-loop-before : goal.invariant-loop-before
invariant-loop-before l = l.found.items ≡ l.initial.found.items ++ numbered (registry_if l.agent.history) (λ (n : ℕ). Registry) (range_with_len 1 l.before)
