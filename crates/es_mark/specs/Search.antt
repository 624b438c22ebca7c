-- Internal: the search for ways: what lasts while the list of ways is followed.
use Rattle.std.specs.Prelude.{ℕ, ◌≡◌, ◌≤◌, ◌<◌, ◌+◌, ◌==◌, ◌&&◌, not, true, List, [], ◌∷◌, ◌++◌, length, take, if◌then◌else◌, ⊤}
use Rattle.std.specs.List.{AllByRecursion}
use Rattle.es_mark.specs.declared.step.Step.{Step}
use Rattle.es_mark.specs.declared.step.Step.TheVariants.{Variable, Kept, Registry, Held, Property, Entry}
use Rattle.es_mark.specs.declared.way.Way.{Way}
use Rattle.es_mark.specs.Ways.{sources, has_way, AreOrdered, IsWithin, AreShortest}
use Rattle.es_mark.specs.Finds.{has_pair}
use Rattle.es_mark.specs.Added.{with_ways}
use Rattle.es_mark.specs.WaitingEntries.{WaitingEntriesView, waiting_for}

-- each identity to which a step leads has a place
abbrev pub HasRoom : (Step → ℕ → Type 0) → ℕ → Type 0
HasRoom leads size = (s : Step) (i : ℕ) → leads s i → i < size

abbrev pub way_to : ℕ → Step → Way
way_to i s = record { value = i; step = s }

-- ways to the values of entries with key k, of those whose WeakMap is in front
abbrev pub ready : List Way → ℕ → List (ℕ × ℕ) → List Way
ready front k [] = []
ready front k (e ∷ es) = if has_way front e.0 then way_to e.1 (Entry e.0 k) ∷ ready front k es else ready front k es

-- key and value of the others that have WeakMap m
abbrev pub delayed : List Way → ℕ → List (ℕ × ℕ) → ℕ → List (ℕ × ℕ)
delayed front k [] m = []
delayed front k (e ∷ es) m = if not (has_way front e.0) && (e.0 == m) then (k, e.1) ∷ delayed front k es m else delayed front k es m

-- ways to the values of entries of WeakMap m, of which these are key and value
abbrev pub released : ℕ → List (ℕ × ℕ) → List Way
released m [] = []
released m (e ∷ es) = way_to e.1 (Entry m e.0) ∷ released m es

-- entries with key k are entered: those whose WeakMap is among the first ways have a way, the others wait
pub record AreEntered (count k : ℕ) (es : List (ℕ × ℕ)) (old : List Way) (waited : WaitingEntriesView) (new : List Way) (waiting : WaitingEntriesView) : Type 0 where
  pub listed : new ≡ with_ways old (ready (take count old) k es)
  pub waits : (m : ℕ) → waiting_for waiting m ≡ waiting_for waited m ++ delayed (take count old) k es m

-- the step leads to the value, from values of these ways
abbrev pub IsLed : (Step → ℕ → Type 0) → List Way → Way → Type 0
IsLed leads ws w = leads w.step w.value × AllByRecursion (λ j. has_way ws j ≡ true) (sources w.step)

-- an entry waits for WeakMap m: its key has a way, and it leads to its value
abbrev pub IsWaiting : (Step → ℕ → Type 0) → List Way → ℕ → ℕ × ℕ → Type 0
IsWaiting leads ws m e = leads (Entry m e.0) e.1 × (has_way ws e.0 ≡ true)

-- where what the step comes from is in front, the value has a way; an entry whose WeakMap alone is not in front waits for it
abbrev pub Covers : List Way → List Way → WaitingEntriesView → Step → ℕ → Type 0
Covers front ws waiting (Variable n) i = has_way ws i ≡ true
Covers front ws waiting Kept i = has_way ws i ≡ true
Covers front ws waiting Registry i = has_way ws i ≡ true
Covers front ws waiting (Held n) i = has_way ws i ≡ true
Covers front ws waiting (Property o n) i = has_way front o ≡ true → has_way ws i ≡ true
Covers front ws waiting (Entry m k) i = has_way front k ≡ true → (if has_way front m then has_way ws i else has_pair (waiting_for waiting m) k i) ≡ true

-- the first ways are followed
pub record Searching (leads : Step → ℕ → Type 0) (done : ℕ) (ws : List Way) (waiting : WaitingEntriesView) : Type 0 where
  pub bound : done ≤ length ws
  pub ordered : AreOrdered leads [] ws
  pub covers : (s : Step) (i : ℕ) → leads s i → Covers (take done ws) ws waiting s i
  pub waits : (m : ℕ) → AllByRecursion (IsWaiting leads (take done ws) m) (waiting_for waiting m)

-- x is the value of the way at this place
pub record Stands (ws : List Way) (place x : ℕ) : Type 0 where
  pub way : Way
  pub value : way.value ≡ x
  pub split : take (place + 1) ws ≡ take place ws ++ way ∷ []

-- whatever number of steps leads to j leads to i
abbrev pub IsNoFarther : (Step → ℕ → Type 0) → ℕ → ℕ → Type 0
IsNoFarther leads i j = (n : ℕ) → IsWithin leads n j → IsWithin leads n i

-- no value is farther than a later one
abbrev pub AreSorted : (Step → ℕ → Type 0) → List Way → Type 0
AreSorted leads [] = ⊤
AreSorted leads (w ∷ ws) = AllByRecursion (λ v. IsNoFarther leads w.value v.value) ws × AreSorted leads ws

-- the ways come from the first ones, the farther the later, and none is longer than it must be
pub record Sorting (leads : Step → ℕ → Type 0) (front ws : List Way) : Type 0 where
  pub led : AllByRecursion (IsLed leads front) ws
  pub sorted : AreSorted leads ws
  pub shortest : AreShortest leads ws
