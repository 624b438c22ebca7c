use Rattle.std.proofs.Common.{◌≡◌, ◌++◌}
use Rattle.std.specs.List.{range_with_len}
use Rattle.es_mark.specs.declared.step.Step.TheVariants.{Property}
use Rattle.es_record.specs.Leading.{property_at}
use Rattle.es_why.specs.Numbered.{numbered}
use Rattle.es_why.proofs.roots.add_at_keys.Given as goal

abbrev pub invariant-loop-place : goal.invariant-loop-place
invariant-loop-place l = l.found.items ≡ l.initial.found.items ++ numbered (property_at l.agent.history l.object) (Property l.object) (range_with_len 0 l.place)
