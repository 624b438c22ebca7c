-- Internal: for each map the values of entries that wait for it to be marked.
use Rattle.std.specs.Prelude.{ℕ, ◌≡◌, Bool, true, List, [], ◌∷◌, ◌++◌, ◌==◌, if◌then◌else◌}
use Rattle.es_mark.specs.Graph.{HasAll}

-- for each map the values that wait for it
abbrev pub WaitingView : Type 0
WaitingView = List (ℕ × List ℕ)

-- the values that wait for the map
abbrev pub waiting_for : WaitingView → ℕ → List ℕ
waiting_for [] m = []
waiting_for (q ∷ qs) m = if q.0 == m then q.1 else waiting_for qs m

-- one more value waits for the map, and for every other map what waited
abbrev pub Waits : WaitingView → ℕ → ℕ → WaitingView → Type 0
Waits old m v new = (k : ℕ) → waiting_for new k ≡ (if m == k then waiting_for old m ++ v ∷ [] else waiting_for old k)

-- the set has the values that wait for each map that it has
abbrev pub HasWaiting : WaitingView → (ℕ → Bool) → Type 0
HasWaiting waiting t = (m : ℕ) → t m ≡ true → HasAll (waiting_for waiting m) t
