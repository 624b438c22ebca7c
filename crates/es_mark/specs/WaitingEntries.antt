-- Internal: for each WeakMap the keys and values of entries that wait for it to be followed.
use Rattle.std.specs.Prelude.{ℕ, ◌≡◌, List, [], ◌∷◌, ◌++◌, ◌==◌, if◌then◌else◌}

-- for each WeakMap keys and values
abbrev pub WaitingEntriesView : Type 0
WaitingEntriesView = List (ℕ × List (ℕ × ℕ))

-- what waits for the WeakMap
abbrev pub waiting_for : WaitingEntriesView → ℕ → List (ℕ × ℕ)
waiting_for [] m = []
waiting_for (q ∷ qs) m = if q.0 == m then q.1 else waiting_for qs m

-- one more entry waits for the WeakMap, and for every other one what waited
abbrev pub Waits : WaitingEntriesView → ℕ → ℕ × ℕ → WaitingEntriesView → Type 0
Waits old m e new = (k : ℕ) → waiting_for new k ≡ (if m == k then waiting_for old m ++ e ∷ [] else waiting_for old k)
