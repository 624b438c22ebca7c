use Rattle.std.proofs.Common.{◌≡◌, ◌++◌, drop}
use Rattle.es_warnings.specs.Mentions.{each_command}
use Rattle.es_warnings.specs.Warnings.{of_command}
use Rattle.es_warnings.proofs.warning.add_commands.Given as goal

abbrev pub invariant-loop-index : goal.invariant-loop-index
invariant-loop-index l =
    l.initial.found.items ++ each_command (of_command l.agent) l.section 0 l.commands ≡ l.found.items ++ each_command (of_command l.agent) l.section l.index (drop l.index l.commands)
