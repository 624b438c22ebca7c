use Rattle.std.proofs.Common.{◌≡◌, ◌++◌}
use Rattle.std.specs.List.{range_with_len}
use Rattle.es_mark.specs.declared.step.Step.TheVariants.{Variable}
use Rattle.es_why.specs.Leads.{variable_at}
use Rattle.es_why.specs.Numbered.{numbered}
use Rattle.es_why.proofs.roots.add_variables.Given as goal

abbrev pub invariant-loop-place : goal.invariant-loop-place
invariant-loop-place l = l.found.items ≡ l.initial.found.items ++ numbered (variable_at l.agent l.names) (Variable) (range_with_len 0 l.place)
