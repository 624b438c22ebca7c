use Rattle.std.proofs.Common.{◌≡◌, ◌++◌}
use Rattle.es_ephemeron.specs.Ephemerons.{holders}
use Rattle.es_ephemeron.proofs.table.add_holders.Given as goal

abbrev pub invariant-loop-holder : goal.invariant-loop-holder
invariant-loop-holder g l = l.found.items ++ holders l.holder-iterator ≡ l.initial.found.items ++ holders l.table.entries
