-- The marks of the copy of an open later collection, for whoever makes them.
use Rattle.std.proofs.Common.{◌≡◌, ℕ, ◌==◌, ◌&&◌, Bool, true, sym, ◌∙◌, ap, refl, subst, List, [], ◌∷◌, reverse, Option, Some, None, inl, inr}
use Rattle.std.specs.Prelude.{is_some}
use Rattle.std.specs.List.{filter, AllByRecursion}
use Rattle.std.proofs.lemmas.Bool.{and_parts, and_from, or_cases, or_left, or_right, eqb-true, eq-eqb}
use Rattle.std.proofs.lemmas.List.Sorted.{list_any-IsPermutation, IsPermutation-reverse}
use Rattle.es_event.specs.History.{History}
use Rattle.es_event.specs.Identities.{is_in, is_made}
use Rattle.es_event.specs.Later.{snapshot, derefed_since}
use Rattle.es_event.proofs.Rising.{in_filter}
use Rattle.es_mark.specs.Graph.{HasAll}
use Rattle.es_parmark.specs.Snapshot.{SnapshotView, are_made, AreMarksWith}
use Rattle.es_parmark.proofs.CallerLemmas.{more_serve}
use Rattle.es_record.specs.AgentView.{AgentView}
use Rattle.es_record.specs.Graph.{HasDerefed, AreLateMarks}
use Rattle.es_agent.specs.Later.{IsLaterCopy, AreDerefed, AreThen}

-- Lists

all_from_in : (P : ℕ → Type 0) (xs : List ℕ) → ((i : ℕ) → is_in xs i ≡ true → P i) → AllByRecursion P xs
all_from_in P [] each = tt
all_from_in P (x ∷ xs) each =
    (each x (or_left (x == x) (is_in xs x) (eq-eqb x x refl)), all_from_in P xs (λ i e. each i (or_right (x == i) (is_in xs i) e)))

all_to_in : (P : ℕ → Type 0) (xs : List ℕ) → AllByRecursion P xs → (i : ℕ) → is_in xs i ≡ true → P i
all_to_in P [] all i e = cc
all_to_in P (x ∷ xs) all i e = elim (or_cases (x == i) (is_in xs i) e) [
  | inl a ↦ subst P (eqb-true x i a) all.0
  | inr b ↦ all_to_in P xs all.1 i b
]

in_reverse : (xs : List ℕ) (i : ℕ) → is_in xs i ≡ is_in (reverse xs) i
in_reverse xs i = list_any-IsPermutation (λ j. j == i) xs (reverse xs) (IsPermutation-reverse xs)

some_is : (o : Option History) → is_some o ≡ true → (p : History) × (o ≡ Some p)
some_is None e = cc
some_is (Some p) e = (p, refl)

-- what derefs gave was made when the copy was taken
pub then_made : (b : AgentView) (s : SnapshotView) (ids : List ℕ) → is_some (snapshot b.history) ≡ true → IsLaterCopy b s → AreThen b ids → are_made s.made ids ≡ true
then_made b s ids here copy good =
    let p = some_is (snapshot b.history) here in
    subst (λ m. are_made m ids ≡ true) (sym (copy p.0 p.1).made_same) (good p.0 p.1)

-- the marks of the copy with what derefs gave are those by which the collection is finished
pub late_marks_are : (b : AgentView) (s : SnapshotView) (ids : List ℕ) (marks : List Bool) → IsLaterCopy b s → AreDerefed b ids → AreThen b ids → AreMarksWith s ids marks → AreLateMarks b marks
late_marks_are b s ids marks copy given good least p is =
    let same : reverse ids ≡ filter (is_made p) (derefed_since b.history) = given p is in
    let in_ids : (i : ℕ) → is_in ids i ≡ (is_made p i && is_in (derefed_since b.history) i) =
    λ i. in_reverse ids i ∙ ap (λ l. is_in l i) same ∙ in_filter (is_made p) (derefed_since b.history) i in
    let on : (t : ℕ → Bool) → HasAll ids t → HasDerefed b p t =
    λ t all i gave here. all_to_in (λ j. t j ≡ true) ids all i (in_ids i ∙ and_from (is_made p i) (is_in (derefed_since b.history) i) here gave) in
    let back : (t : ℕ → Bool) → HasDerefed b p t → HasAll ids t =
    λ t has. all_from_in (λ j. t j ≡ true) ids (λ i e. let both = and_parts (is_made p i) (is_in (derefed_since b.history) i) (sym (in_ids i) ∙ e) in has i both.1 both.0) in
    let own = more_serve (copy p is) ids (subst (λ m. are_made m ids ≡ true) (sym (copy p is).made_same) (good p is)) marks least in
    record {
      closed = record { has_roots = (own.closed.has_roots.0, on _ own.closed.has_roots.1); follows = own.closed.follows; enters = own.closed.enters };
      least = λ t closed. own.least t (record { has_roots = (closed.has_roots.0, back t closed.has_roots.1); follows = closed.follows; enters = closed.enters });
    }
