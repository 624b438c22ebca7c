-- Internal: flags in words of 64 bits: the flag i is the bit i % 64 of the word i / 64.
use Rattle.std.specs.Prelude.{ℕ, ◌*◌, ◌/◌, ◌%◌, ◌==◌, Bool, List, length, map, slice_index_or}
use Rattle.std.specs.List.{range_with_len}
use Rattle.std.specs.Int.{bit_at}

-- the flag i
unfoldable pub has_bit : List ℕ → ℕ → Bool
has_bit words i = bit_at (slice_index_or words (i / 64) 0) (i % 64) == 1

-- all flags
unfoldable pub bits_of : List ℕ → List Bool
bits_of words = map (has_bit words) (range_with_len 0 (64 * length words))
