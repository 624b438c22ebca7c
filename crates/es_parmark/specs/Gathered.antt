-- Internal: what helpers found of a part of the list, and that this part is followed.
use Rattle.std.specs.Prelude.{ℕ, ◌≡◌, Bool, true, List, [], ◌++◌}
use Rattle.std.specs.List.{AllByRecursion, list_all}
use Rattle.es_mark.specs.Graph.{HasAll}
use Rattle.es_mark.specs.Made.{is_made}
use Rattle.es_mark.specs.Marks.{IsWithin}
use Rattle.es_mark.specs.Steps.{HasBoth, IsStep, Obeys}
use Rattle.es_mark.specs.Waiting.{WaitingView, waiting_for}

-- the list has grown by what passes the test, and a set with the marks has this exactly where it has what is asked for
pub record IsGathered {X : Type 0} (marks : List Bool) (test : X → Bool) (Has : (ℕ → Bool) → X → Type 0) (asked : (ℕ → Bool) → Type 0) (old new : List X) : Type 0 where
  pub rest : List X
  pub added : new ≡ old ++ rest
  pub passes : list_all test rest ≡ true
  pub only : (t : ℕ → Bool) → asked t → AllByRecursion (Has t) rest
  pub all : (t : ℕ → Bool) → IsWithin marks t → AllByRecursion (Has t) rest → asked t

-- identities, of which nothing is said but that
abbrev pub IsSifted : List Bool → ((ℕ → Bool) → Type 0) → List ℕ → List ℕ → Type 0
IsSifted marks asked old new = IsGathered marks (λ _. true) (λ t i. t i ≡ true) asked old new

-- identities that were made
abbrev pub GathersIds : ℕ → List Bool → ((ℕ → Bool) → Type 0) → List ℕ → List ℕ → Type 0
GathersIds made marks asked old new = IsGathered marks (is_made made) (λ t i. t i ≡ true) asked old new

-- pairs whose second was made
abbrev pub GathersPairs : ℕ → List Bool → ((ℕ → Bool) → Type 0) → List (ℕ × ℕ) → List (ℕ × ℕ) → Type 0
GathersPairs made marks asked old new = IsGathered marks (λ p. is_made made p.1) (λ t p. t p.0 ≡ true → t p.1 ≡ true) asked old new

-- the set has what the rule asks for of each of these
abbrev pub OfEach : (ℕ → (ℕ → Bool) → Type 0) → List ℕ → (ℕ → Bool) → Type 0
OfEach rule ids t = AllByRecursion (λ i. rule i t) ids

-- these are what a part of the list leads to, and its entries
pub record IsPart (made : ℕ) (marks : List Bool) (edges entries : ℕ → (ℕ → Bool) → Type 0) (front ids : List ℕ) (pairs : List (ℕ × ℕ)) : Type 0 where
  pub leads : GathersIds made marks (OfEach edges front) [] ids
  pub enters : GathersPairs made marks (OfEach entries front) [] pairs

-- these identities are followed, and what waited for each of them is marked
pub record AreFollowed (made : ℕ) (edges entries : ℕ → (ℕ → Bool) → Type 0) (ids old : List ℕ) (waited : WaitingView) (new : List ℕ) (waiting : WaitingView) : Type 0 where
  pub step : IsStep (OfEach (Obeys edges entries) ids) old waited new waiting
  pub released : (t : ℕ → Bool) → HasAll new t → OfEach (λ m. HasAll (waiting_for waiting m)) ids t
  pub numbered : HasBoth new waiting (is_made made)
