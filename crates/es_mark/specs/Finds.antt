-- To believe: what the calls of a heap find.
use Rattle.std.specs.Prelude.{ℕ, ◌≡◌, ◌≤◌, ◌==◌, ◌&&◌, ◌||◌, Bool, true, false, List, [], ◌∷◌, ◌++◌}
use Rattle.std.specs.List.{AllByRecursion}
use Rattle.es_mark.specs.declared.step.Step.{Step}
use Rattle.es_mark.specs.declared.step.Step.TheVariants.{Entry}
use Rattle.es_mark.specs.declared.way.Way.{Way}
use Rattle.es_mark.specs.Ways.{sources, has_way}

-- no identity to which a step leads is above the number
abbrev pub IsBound : (Step → ℕ → Type 0) → ℕ → Type 0
IsBound leads made = (s : Step) (i : ℕ) → leads s i → i ≤ made

-- these ways are added: their steps come from these values and lead to their own, and each value to which such a step leads is among them
pub record Finds (leads : Step → ℕ → Type 0) (origin : List ℕ) (old new : List Way) : Type 0 where
  pub ways : List Way
  pub added : new ≡ old ++ ways
  pub only : AllByRecursion (λ w. leads w.step w.value × (sources w.step ≡ origin)) ways
  pub every : (s : Step) (i : ℕ) → leads s i → sources s ≡ origin → has_way ways i ≡ true

-- the pair of these numbers is among them
abbrev pub has_pair : List (ℕ × ℕ) → ℕ → ℕ → Bool
has_pair [] m i = false
has_pair (e ∷ es) m i = ((e.0 == m) && (e.1 == i)) || has_pair es m i

-- WeakMap and value of each entry with this key are added
pub record FindsEntries (leads : Step → ℕ → Type 0) (key : ℕ) (old new : List (ℕ × ℕ)) : Type 0 where
  pub entries : List (ℕ × ℕ)
  pub added : new ≡ old ++ entries
  pub only : AllByRecursion (λ e. leads (Entry e.0 key) e.1) entries
  pub every : (m i : ℕ) → leads (Entry m key) i → has_pair entries m i ≡ true
