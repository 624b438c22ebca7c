use Rattle.std.proofs.Common.{◌≡◌, ◌++◌, drop}
use Rattle.es_warnings.specs.Mentions.{each_callback}
use Rattle.es_warnings.specs.Warnings.{of_callback}
use Rattle.es_warnings.proofs.warning.add_callbacks.Given as goal

abbrev pub invariant-loop-number : goal.invariant-loop-number
invariant-loop-number l = l.initial.found.items ++ each_callback (of_callback l.agent) 0 l.callbacks ≡ l.found.items ++ each_callback (of_callback l.agent) l.number (drop l.number l.callbacks)
