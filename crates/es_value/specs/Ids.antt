-- To believe: which identities a list has.
use Rattle.std.specs.Prelude.{ℕ, Bool, ◌==◌, List}
use Rattle.std.specs.List.{list_any}

abbrev pub is_in : List ℕ → ℕ → Bool
is_in ids i = list_any (λ j. j == i) ids
