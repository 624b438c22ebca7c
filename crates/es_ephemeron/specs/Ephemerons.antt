-- To believe: the entries of WeakMaps and the members of WeakSets as contracts see them (WeakMap Objects, WeakSet Objects): by key, and under each key by the WeakMap or WeakSet that holds the record.
use Rattle.std.specs.Prelude.{ℕ, ◌≡◌, ◌≤◌, ◌-◌, ◌==◌, ◌&&◌, ◌||◌, List, [], ◌∷◌, Option, Some, None, map, slice_index_or, if◌then◌else◌, ⊤}
use Rattle.es_value.specs.Ids.{is_in}
use Rattle.es_value.specs.declared.value.Value.{Value}

-- what is recorded under one key: its holders, each with what it has there
abbrev pub Records : Type 0 → Type 0
Records V = List (ℕ × V)

-- the records of each key, of which the first is identity 1, and for how many more records each key has room
pub record KeyedView (V : Type 0) : Type 0 where
  pub all : List (Records V)
  pub rooms : List ℕ

-- the values of WeakMaps, and the members of WeakSets
pub record WeakTablesView : Type 0 where
  pub entries : KeyedView Value
  pub members : KeyedView ⊤

-- what is recorded under key k
abbrev pub records_at : {V : Type 0} → List (Records V) → ℕ → Records V
records_at all k = if k == 0 then [] else slice_index_or all (k - 1) []

-- for how many more records there is room under key k
abbrev pub room_at : List ℕ → ℕ → ℕ
room_at rooms k = if k == 0 then 0 else slice_index_or rooms (k - 1) 0

-- the holders of these records
abbrev pub holders : {V : Type 0} → Records V → List ℕ
holders ps = map (λ p. p.0) ps

-- what the holder m has among these
abbrev pub held_by : {V : Type 0} → Records V → ℕ → Option V
held_by [] m = None
held_by (p ∷ ps) m = if p.0 == m then Some p.1 else held_by ps m

-- what the holder m has under key k
abbrev pub record_at : {V : Type 0} → List (Records V) → ℕ → ℕ → Option V
record_at all m k = held_by (records_at all k) m

-- the holder m has this under key k, or nothing, and every other record is as it was
abbrev pub Changes : {V : Type 0} → List (Records V) → ℕ → ℕ → Option V → List (Records V) → Type 0
Changes old m k v new = (n j : ℕ) → record_at new n j ≡ (if (m == n) && (k == j) then v else record_at old n j)

-- every record is as it was
abbrev pub Unchanged : {V : Type 0} → List (Records V) → List (Records V) → Type 0
Unchanged old new = (n j : ℕ) → record_at new n j ≡ record_at old n j

-- the records under these keys and of these holders are gone, and every other is as it was (Execution)
abbrev pub Empties : {V : Type 0} → List (Records V) → List ℕ → List (Records V) → Type 0
Empties old ids new = (n j : ℕ) → record_at new n j ≡ (if is_in ids n || is_in ids j then None else record_at old n j)

-- no key loses room
abbrev pub KeepsRoom : List ℕ → List ℕ → Type 0
KeepsRoom old new = (j : ℕ) → room_at old j ≤ room_at new j
