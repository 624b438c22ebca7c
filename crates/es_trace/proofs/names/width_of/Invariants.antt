use Rattle.std.proofs.Common.{◌≡◌, drop}
use Rattle.es_trace.specs.Columns.{widest}
use Rattle.es_trace.proofs.names.width_of.Given as goal

-- the rest of the names widens it to the width of all
abbrev pub invariant-loop-name : goal.invariant-loop-name
invariant-loop-name l = widest l.width (drop l.name-index l.names) ≡ widest 1 l.names
