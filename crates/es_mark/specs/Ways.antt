-- To believe: ways to values: one to each that steps lead to, each after those that it comes from (ECMA-262, Execution; WeakMap Objects).
use Rattle.std.specs.Prelude.{ℕ, ◌≡◌, ◌==◌, ◌||◌, Bool, true, false, List, [], ◌∷◌, ◌++◌, zero, suc, ⊤}
use Rattle.std.specs.List.{AllByRecursion}
use Rattle.es_mark.specs.declared.step.Step.{Step}
use Rattle.es_mark.specs.declared.step.Step.TheVariants.{Variable, Kept, Registry, Held, Property, Entry}
use Rattle.es_mark.specs.declared.way.Way.{Way}

-- what the step comes from: a property from its object, an entry from its WeakMap and its key, and all others from nothing
abbrev pub sources : Step → List ℕ
sources (Variable n) = []
sources Kept = []
sources Registry = []
sources (Held n) = []
sources (Property o n) = o ∷ []
sources (Entry m k) = m ∷ k ∷ []

-- one of the ways is to i
abbrev pub has_way : List Way → ℕ → Bool
has_way [] i = false
has_way (w ∷ ws) i = (w.value == i) || has_way ws i

-- the step leads to the value, from values of earlier ways, and no earlier way is to this value
pub record IsWay (leads : Step → ℕ → Type 0) (before : List Way) (w : Way) : Type 0 where
  pub led : leads w.step w.value
  pub comes : AllByRecursion (λ j. has_way before j ≡ true) (sources w.step)
  pub first : has_way before w.value ≡ false

-- each is such a way
abbrev pub AreOrdered : (Step → ℕ → Type 0) → List Way → List Way → Type 0
AreOrdered leads before [] = ⊤
AreOrdered leads before (w ∷ ws) = IsWay leads before w × AreOrdered leads (before ++ w ∷ []) ws

-- the set has each value to which a step leads from what the set has
abbrev pub IsClosed : (Step → ℕ → Type 0) → (ℕ → Bool) → Type 0
IsClosed leads t = (s : Step) (i : ℕ) → leads s i → AllByRecursion (λ j. t j ≡ true) (sources s) → t i ≡ true

-- every closed set has i
abbrev pub IsReached : (Step → ℕ → Type 0) → ℕ → Type 0
IsReached leads i = (t : ℕ → Bool) → IsClosed leads t → t i ≡ true

-- one way to each value that is reached, and to no other, each after those that it comes from
pub record AreWays (leads : Step → ℕ → Type 0) (ws : List Way) : Type 0 where
  pub ordered : AreOrdered leads [] ws
  pub every : (i : ℕ) → IsReached leads i → has_way ws i ≡ true
  pub only : (i : ℕ) → has_way ws i ≡ true → IsReached leads i

-- at most n steps, one after the other, lead to i; an entry is one step after both its WeakMap and its key
abbrev pub IsWithin : (Step → ℕ → Type 0) → ℕ → ℕ → Type 0
IsWithin leads zero i = ⊥
IsWithin leads (suc n) i = (s : Step) × leads s i × AllByRecursion (IsWithin leads n) (sources s)

-- no way is longer than another list of steps: if at most n + 1 of them lead to its value, at most n lead to what it comes from
abbrev pub AreShortest : (Step → ℕ → Type 0) → List Way → Type 0
AreShortest leads ws = AllByRecursion (λ w. (n : ℕ) → IsWithin leads (suc n) w.value → AllByRecursion (IsWithin leads n) (sources w.step)) ws
