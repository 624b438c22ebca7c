use Rattle.std.proofs.Common.{◌≡◌, ◌++◌, List, flat_map, option_to_list, take}
use Rattle.es_warnings.specs.Known.{Knows}
use Rattle.es_warnings.specs.Mentions.{Mention}
use Rattle.es_warnings.specs.Warnings.{of_variable, variables}
use Rattle.es_warnings.proofs.warning.add_variables.Given as goal

abbrev pub invariant-loop-index : goal.invariant-loop-index
invariant-loop-index l = (past : List Mention) → Knows past l.variables
    → l.found.items ≡ l.initial.found.items ++ flat_map (λ x. option_to_list (of_variable l.agent past x)) (take l.index (variables past))
