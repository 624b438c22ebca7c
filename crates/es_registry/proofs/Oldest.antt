-- The first listed place that passes is the first of all that pass, where all that pass are listed in rising order.
use Rattle.std.proofs.Common.{◌≡◌, ℕ, ◌<◌, ◌≤◌, Bool, true, false, cond, List, [], ◌∷◌, length, Some, None, refl, ◌∙◌, arith, nat_lt}
use Rattle.std.specs.declared.cmp.Ordering.TheVariants.{Less}
use Rattle.std.specs.List.{AllByRecursion, list_any, find, position, position_or_len, slice_get}
use Rattle.std.specs.List.Sorted.{IsStrictlySortedBy}
use Rattle.std.specs.Ordering.{nat_cmp, is_eq}
use Rattle.std.specs.BTreeMap.{is_at}
use Rattle.std.proofs.lemmas.Bool.Decides.{nat_tests}
use Rattle.std.proofs.lemmas.List.Sums.{fails_before_first, passes_at_first}
use Rattle.std.proofs.lemmas.List.Folds.{find_at}
use Rattle.std.proofs.lemmas.Option.{slice_get_past}
use Rattle.std.proofs.lemmas.Map.Keys.{sorted_head, sorted_tail}
use Rattle.es_registry.specs.declared.slot.Slot.{Slot}
use Rattle.es_registry.specs.declared.slot.Slot.TheVariants.{Taken}
use Rattle.es_registry.specs.Slots.{passes_at}
use Rattle.es_registry.proofs.Counting.{at_place, within}

is_less : (x y : ℕ) → nat_cmp x y ≡ Less → x < y
is_less x y e = grind (arith, nat_tests)

is_equal : (x y : ℕ) → is_eq (nat_cmp x y) ≡ true → x ≡ y
is_equal x y e = grind (arith, nat_tests)

-- a listed number comes after the head of a rising list
pub later : (k i : ℕ) (ks : List ℕ) → AllByRecursion (λ y. nat_cmp k y ≡ Less) ks → list_any (is_at (nat_cmp i)) ks ≡ true → k < i
later k i [] all here = cc
later k i (x ∷ ks) all here = by_head (λ h. later k i ks all.1 h) (is_eq (nat_cmp i x)) refl
  where
    by_head : (list_any (is_at (nat_cmp i)) ks ≡ true → k < i) → (b : Bool) → is_eq (nat_cmp i x) ≡ b → k < i
    by_head in_rest true e = let same : i ≡ x = is_equal i x e in let less : k < x = is_less k x all.0 in omega arith
    by_head in_rest false e = in_rest (rw e at here)

found : (test : ℕ → Bool) (ks : List ℕ) (i : ℕ) → IsStrictlySortedBy nat_cmp ks → list_any (is_at (nat_cmp i)) ks ≡ true → test i ≡ true → ((j : ℕ) → j < i → test j ≡ false) → find test ks ≡ Some i
found test [] i sorted here passes below = cc
found test (k ∷ ks) i sorted here passes below = by_head (λ h. found test ks i (sorted_tail nat_cmp k ks sorted) h passes below) (is_eq (nat_cmp i k)) refl
  where
    by_head : (list_any (is_at (nat_cmp i)) ks ≡ true → find test ks ≡ Some i) → (b : Bool) → is_eq (nat_cmp i k) ≡ b → find test (k ∷ ks) ≡ Some i
    by_head in_rest true e = let same : i ≡ k = is_equal i k e in rw (← same, passes) refl
    by_head in_rest false e =
        let rest : list_any (is_at (nat_cmp i)) ks ≡ true = rw e at here in
        let less : k < i = later k i ks (sorted_head nat_cmp k ks sorted) rest in
        rw (below k less) (in_rest rest)

none_found : (test : ℕ → Bool) (ks : List ℕ) → ((j : ℕ) → test j ≡ false) → find test ks ≡ None
none_found test [] fails = refl
none_found test (k ∷ ks) fails = rw (fails k) (none_found test ks fails)

past : (p : Slot → Bool) (xs : List Slot) (k : ℕ) → length xs ≤ k → passes_at p xs k ≡ false
past p xs k le = by_test (passes_at p xs k) refl
  where
    by_test : (b : Bool) → passes_at p xs k ≡ b → b ≡ false
    by_test true e = let lt : k < length xs = within p xs k e in absurd (omega arith)
    by_test false e = refl

fails_before : (p : Slot → Bool) (xs : List Slot) (j : ℕ) → j < position_or_len p xs → passes_at p xs j ≡ false
fails_before p xs j lt = by_test (nat_lt j (length xs)) refl
  where
    by_test : (b : Bool) → nat_lt j (length xs) ≡ b → passes_at p xs j ≡ false
    by_test true e = let inside : j < length xs = grind (arith, nat_tests) in at_place p xs j Taken inside ∙ fails_before_first p xs j Taken lt
    by_test false e = let outside : length xs ≤ j = grind (arith, nat_tests) in past p xs j outside

outside : (p : Slot → Bool) (xs : List Slot) (j : ℕ) (b : Bool) → nat_lt j (length xs) ≡ b → length xs ≤ position_or_len p xs → passes_at p xs j ≡ false
outside p xs j true e all = let lt : j < position_or_len p xs = grind (arith, nat_tests) in fails_before p xs j lt
outside p xs j false e all = let le : length xs ≤ j = grind (arith, nat_tests) in past p xs j le

pub first_listed : (p : Slot → Bool) (xs : List Slot) (ks : List ℕ) → IsStrictlySortedBy nat_cmp ks → ((k : ℕ) → passes_at p xs k ≡ true → list_any (is_at (nat_cmp k)) ks ≡ true) → find (passes_at p xs) ks ≡ position p xs
first_listed p xs ks sorted listed = by_test (nat_lt (position_or_len p xs) (length xs)) refl
  where
    by_test : (b : Bool) → nat_lt (position_or_len p xs) (length xs) ≡ b → find (passes_at p xs) ks ≡ cond b (Some (position_or_len p xs)) None
    by_test true e =
        let inside : position_or_len p xs < length xs = grind (arith, nat_tests) in
        let passes : passes_at p xs (position_or_len p xs) ≡ true = at_place p xs (position_or_len p xs) Taken inside ∙ passes_at_first p xs Taken inside in
        found (passes_at p xs) ks (position_or_len p xs) sorted (listed (position_or_len p xs) passes) passes (fails_before p xs)
    by_test false e =
        let all : length xs ≤ position_or_len p xs = grind (arith, nat_tests) in
        none_found (passes_at p xs) ks (λ j. outside p xs j (nat_lt j (length xs)) refl all)

pub none_listed : (p : Slot → Bool) (xs : List Slot) → ((k : ℕ) → passes_at p xs k ≡ true → ⊥) → None ≡ position p xs
unfolding IsStrictlySortedBy
none_listed p xs none = first_listed p xs [] tt (λ k h. absurd (none k h))

-- the first that passes is found at the first place that passes
pub found_at : (p : Slot → Bool) (xs : List Slot) (i : ℕ) → Some i ≡ position p xs → (find p xs ≡ slice_get xs i) × (passes_at p xs i ≡ true) × (position_or_len p xs ≡ i)
found_at p xs i is = by_test (nat_lt (position_or_len p xs) (length xs)) refl
  where
    by_test : (b : Bool) → nat_lt (position_or_len p xs) (length xs) ≡ b → (find p xs ≡ slice_get xs i) × (passes_at p xs i ≡ true) × (position_or_len p xs ≡ i)
    by_test true e =
        let same : Some i ≡ Some (position_or_len p xs) = rw e at is in
        let here : i ≡ position_or_len p xs = cc in
        let inside : position_or_len p xs < length xs = grind (arith, nat_tests) in
        let passes : passes_at p xs (position_or_len p xs) ≡ true = at_place p xs (position_or_len p xs) Taken inside ∙ passes_at_first p xs Taken inside in
        rw here (find_at p xs, passes, refl)
    by_test false e = let never : Some i ≡ None = rw e at is in cc

pub nothing_found : (p : Slot → Bool) (xs : List Slot) → None ≡ position p xs → (find p xs ≡ None) × (length xs ≤ position_or_len p xs)
nothing_found p xs is = by_test (nat_lt (position_or_len p xs) (length xs)) refl
  where
    by_test : (b : Bool) → nat_lt (position_or_len p xs) (length xs) ≡ b → (find p xs ≡ None) × (length xs ≤ position_or_len p xs)
    by_test true e = let never : None ≡ Some (position_or_len p xs) = rw e at is in cc
    by_test false e =
        let all : length xs ≤ position_or_len p xs = grind (arith, nat_tests) in
        (find_at p xs ∙ slice_get_past xs (position_or_len p xs) all, all)
