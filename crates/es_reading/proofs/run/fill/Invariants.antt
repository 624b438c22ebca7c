use Rattle.std.proofs.Common.{◌≡◌, ◌++◌, replicate, None}
use Rattle.es_reading.proofs.run.fill.Given as goal

abbrev pub invariant-loop : goal.invariant-loop
invariant-loop l = l.catches ≡ l.fn.catches ++ replicate l.counter None
