-- To believe: entries as pairs of map and identity of the value.
use Rattle.std.specs.Prelude.{ℕ, ◌≡◌, Bool, true, List, [], ◌∷◌, Option, Some, None}
use Rattle.std.specs.List.{AllByRecursion}
use Rattle.es_value.specs.declared.value.Value.{Value}
use Rattle.es_value.specs.Values.{identity}

-- the set has the second of each pair whose first it has
abbrev pub HasPairs : List (ℕ × ℕ) → (ℕ → Bool) → Type 0
HasPairs pairs t = AllByRecursion (λ p. t p.0 ≡ true → t p.1 ≡ true) pairs

-- the pair of an entry whose value has an identity, before others
abbrev pub pair_before : ℕ → Option ℕ → List (ℕ × ℕ) → List (ℕ × ℕ)
pair_before m None pairs = pairs
pair_before m (Some i) pairs = (m, i) ∷ pairs

-- map and identity of the value of each entry whose value has one
abbrev pub pairs_said : List (ℕ × Value) → List (ℕ × ℕ)
pairs_said [] = []
pairs_said (e ∷ es) = pair_before e.0 (identity e.1) (pairs_said es)
