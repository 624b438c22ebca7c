-- Internal: sets of identities as flags, and what is added to one.
use Rattle.std.specs.Prelude.{ℕ, ◌≡◌, ◌<◌, ◌==◌, ◌||◌, Bool, false, List, length, Option, Some, None, slice_index_or}

-- flags by identity; place 0 is not used
abbrev pub is_set : List Bool → ℕ → Bool
is_set flags i = slice_index_or flags i false

-- it is there, and is this one
abbrev pub is_this : Option ℕ → ℕ → Bool
is_this None i = false
is_this (Some j) i = j == i

-- the set has what passes, as far as it has places, beside what it had
pub record Sets (test : ℕ → Bool) (old new : List Bool) : Type 0 where
  pub places : length new ≡ length old
  pub set : (i : ℕ) → i < length old → is_set new i ≡ (test i || is_set old i)
