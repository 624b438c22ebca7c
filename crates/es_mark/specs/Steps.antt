-- Internal: a step of marking: the list of what is marked grows by what a rule asks for, and by nothing else.
use Rattle.std.specs.Prelude.{ℕ, ◌≡◌, ◌<◌, Bool, List, ◌++◌, length}
use Rattle.std.specs.List.{AllByRecursion}
use Rattle.es_mark.specs.Graph.{HasAll}
use Rattle.es_mark.specs.Made.{is_made}
use Rattle.es_mark.specs.Waiting.{WaitingView, waiting_for, HasWaiting}

-- the set has what is marked, and the values that wait for each map that it has
abbrev pub HasBoth : List ℕ → WaitingView → (ℕ → Bool) → Type 0
HasBoth order waiting t = HasAll order t × HasWaiting waiting t

-- a set with all that was marked and waited before has the rest exactly where the rule holds of it
pub record IsStep (rule : (ℕ → Bool) → Type 0) (old : List ℕ) (waited : WaitingView) (new : List ℕ) (waiting : WaitingView) : Type 0 where
  pub rest : List ℕ
  pub added : new ≡ old ++ rest
  pub only : (t : ℕ → Bool) → rule t → HasBoth old waited t → HasBoth new waiting t
  pub all : (t : ℕ → Bool) → HasBoth new waiting t → HasBoth old waited t × rule t
  pub frozen : AllByRecursion (λ m. waiting_for waiting m ≡ waiting_for waited m) old

-- there is room for what was made, and all that is marked or waits was made
pub record IsReady (made : ℕ) (marks : List Bool) (order : List ℕ) (waiting : WaitingView) : Type 0 where
  pub room : made < length marks
  pub numbered : HasBoth order waiting (is_made made)

-- the set has what the identity leads to, and the values of its entries
abbrev pub Obeys : (ℕ → (ℕ → Bool) → Type 0) → (ℕ → (ℕ → Bool) → Type 0) → ℕ → (ℕ → Bool) → Type 0
Obeys edges entries i t = edges i t × entries i t

-- the identity is followed, and what waited for it is marked
pub record IsFollowed (made : ℕ) (edges entries : ℕ → (ℕ → Bool) → Type 0) (i : ℕ) (old : List ℕ) (waited : WaitingView) (new : List ℕ) (waiting : WaitingView) : Type 0 where
  pub step : IsStep (Obeys edges entries i) old waited new waiting
  pub released : (t : ℕ → Bool) → HasAll new t → HasAll (waiting_for waiting i) t
  pub numbered : HasBoth new waiting (is_made made)
