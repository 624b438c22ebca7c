use Rattle.std.proofs.Common.{take, reverse}
use Rattle.es_report.specs.Holding.{Traced}
use Rattle.es_report.proofs.holding.trace_of.Given as goal

abbrev pub invariant-loop-place : goal.invariant-loop-place
invariant-loop-place l = Traced l.serial l.block (reverse (take l.place l.events)) l.traced
