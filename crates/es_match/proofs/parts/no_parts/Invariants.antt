use Rattle.std.proofs.Common.{◌≡◌, ℕ, [], length}
use Rattle.es_match.specs.Split.{part_at}
use Rattle.es_match.proofs.parts.no_parts.Given as goal

abbrev pub invariant-loop : goal.invariant-loop
invariant-loop l = (length l.parts.items ≡ l.counter) × ((a : ℕ) → part_at l.parts.items a ≡ [])
