use Rattle.std.proofs.Common.{◌≡◌, ℕ, ◌<◌, [], true, Some, length, slice_index_or}
use Rattle.es_match.specs.Goes.{goes}
use Rattle.es_match.specs.Meets.{nothing_came}
use Rattle.es_match.specs.Split.{part_at}
use Rattle.es_match.proofs.matching.all_go_in_turn.Given as goal

abbrev pub invariant-loop-i : goal.invariant-loop-i
invariant-loop-i l = (length l.all.items ≡ l.i) × ((a : ℕ) → a < l.i → goes true nothing_came (slice_index_or l.histories a []) (part_at l.parts a) ≡ Some (slice_index_or l.all.items a nothing_came))
