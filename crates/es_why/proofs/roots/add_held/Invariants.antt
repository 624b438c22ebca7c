use Rattle.std.proofs.Common.{◌≡◌, ◌++◌}
use Rattle.std.specs.List.{range_with_len}
use Rattle.es_mark.specs.declared.step.Step.TheVariants.{Held}
use Rattle.es_record.specs.Leading.{held_of}
use Rattle.es_why.specs.Numbered.{numbered}
use Rattle.es_why.proofs.roots.add_held.Given as goal

abbrev pub invariant-loop-before : goal.invariant-loop-before
invariant-loop-before l = l.found.items ≡ l.initial.found.items ++ numbered (held_of l.agent.history) (Held) (range_with_len 1 l.before)
