use Rattle.std.proofs.Common.{◌≡◌, ◌++◌}
use Rattle.es_ephemeron.proofs.table.add_copies.Given as goal

abbrev pub invariant-loop-holder : goal.invariant-loop-holder
invariant-loop-holder l = l.found.items ++ l.holder-iterator ≡ l.initial.found.items ++ l.table.entries
