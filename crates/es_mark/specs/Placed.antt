-- Internal: the place of each identity's way in the list of ways.
use Rattle.std.specs.Prelude.{ℕ, ◌≡◌, ◌+◌, ◌&&◌, List, [], ◌∷◌, zero, suc, length, take, nat_lt, nat_le, slice_index_or}
use Rattle.es_mark.specs.declared.way.Way.{Way}
use Rattle.es_mark.specs.Ways.{has_way}

-- how many identities have no way
abbrev pub free : List ℕ → ℕ
free [] = 0
free (zero ∷ places) = 1 + free places
free (suc p ∷ places) = free places

-- a way to i is among the first d exactly where its place, counted from 1, is one of 1 to d; what has no way has place 0
pub record ArePlaced (ws : List Way) (places : List ℕ) : Type 0 where
  pub placed : (i d : ℕ) → has_way (take d ws) i ≡ (nat_lt 0 (slice_index_or places i 0) && nat_le (slice_index_or places i 0) d)
  pub count : free places + length ws ≡ length places
