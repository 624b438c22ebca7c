use Rattle.std.proofs.Common.{drop}
use Rattle.es_warnings.specs.Known.{Leaves}
use Rattle.es_warnings.specs.Mentions.{each_command, mentions}
use Rattle.es_warnings.proofs.variables.Variables.note_commands.Given as goal

abbrev pub invariant-loop-index : goal.invariant-loop-index
invariant-loop-index l = Leaves l.initial.self l.self (each_command mentions l.section 0 l.commands) (each_command mentions l.section l.index (drop l.index l.commands))
