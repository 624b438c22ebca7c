use Rattle.std.proofs.Common.{◌≡◌, ◌+◌, ℕ, List, length}
use Rattle.serde_json.specs.View.{members_view}
use Rattle.es_reading.specs.Scope.{number_from}
use Rattle.es_reading.specs.Reading.{numbered, or_else}
use Rattle.es_reading.proofs.number_table.numbers_in.Given as goal

abbrev pub invariant-loop-name : goal.invariant-loop-name
invariant-loop-name l =
    record {
      numbers : (n : List ℕ) → number_from 1 (members_view l.members.entries) n ≡ or_else (numbered l.numbers n) (number_from (l.number + 1) (members_view l.name-iterator) n);
      counted : l.number + length l.name-iterator ≡ length l.members.entries;
    }
