use Rattle.std.proofs.Common.{◌≡◌, ◌+◌, ℕ, List, drop}
use Rattle.es_reading.specs.Scope.{number_in}
use Rattle.es_reading.specs.Reading.{numbered, or_else}
use Rattle.es_reading.proofs.number_table.numbers_of.Given as goal

abbrev pub invariant-loop-index : goal.invariant-loop-index
invariant-loop-index l =
    (n : List ℕ) → number_in l.first l.names n ≡ or_else (numbered l.numbers n) (number_in (l.first + l.index) (drop l.index l.names) n)
