use Rattle.std.proofs.Common.{drop}
use Rattle.es_warnings.specs.Known.{Leaves}
use Rattle.es_warnings.specs.Mentions.{each_callback, in_callback}
use Rattle.es_warnings.proofs.variables.Variables.note_callbacks.Given as goal

abbrev pub invariant-loop-number : goal.invariant-loop-number
invariant-loop-number l = Leaves l.initial.self l.self (each_callback in_callback 0 l.callbacks) (each_callback in_callback l.number (drop l.number l.callbacks))
