-- Internal: rows while they are added, one for each identity.
use Rattle.std.specs.Prelude.{ℕ, ◌≡◌, ◌+◌, ◌<◌, ◌≤◌, Bool, true, List, length, slice_index_or}
use Rattle.std.specs.List.{AllByRecursion, list_all}
use Rattle.es_parmark.specs.Snapshot.{row}

-- the rows of the identities up to n: all of them pass the test, and a set has the row of i exactly where it has what is asked for
pub record AreRows {X : Type 0} (test : X → Bool) (asked : ℕ → (ℕ → Bool) → Type 0) (Has : (ℕ → Bool) → X → Type 0) (n : ℕ) (ends : List ℕ) (all : List X) : Type 0 where
  pub count : length ends ≡ n + 1
  pub last : slice_index_or ends n 0 ≡ length all
  pub within : (i : ℕ) → i ≤ n → slice_index_or ends i 0 ≤ length all
  pub passes : list_all test all ≡ true
  pub from : (i : ℕ) → 0 < i → i ≤ n → (t : ℕ → Bool) → asked i t → AllByRecursion (Has t) (row ends all i)
  pub to : (i : ℕ) → 0 < i → i ≤ n → (t : ℕ → Bool) → AllByRecursion (Has t) (row ends all i) → asked i t
