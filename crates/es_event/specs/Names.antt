-- Internal: a name that may be left out, as the list that holds it.
use Rattle.std.specs.Prelude.{ℕ, List, [], ◌∷◌, Option, None, Some}

abbrev pub first_name : List (List ℕ) → Option (List ℕ)
first_name [] = None
first_name (n ∷ ns) = Some n
