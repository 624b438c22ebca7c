-- Lists by rising identity: where a search ends, and that they stay so.
use Rattle.std.proofs.Common.{◌≡◌, ◌≢◌, ◌<◌, ◌≤◌, ℕ, zero, suc, List, [], ◌∷◌, ◌++◌, Bool, true, false, cond, ◌==◌, nat_lt, length, get_or, Some, None, Result, Ok, Err, IfOk, IfErr, refl, sym, ◌∙◌, arith}
use Rattle.std.specs.List.{insert, remove}
use Rattle.std.specs.List.Sorted.{IsSearchInRange, IsBinarySearchResult}
use Rattle.std.specs.Ordering.{nat_cmp, ordering_index}
use Rattle.std.proofs.lemmas.Cmp.{ranked}
use Rattle.std.proofs.lemmas.List.Sorted.{IsNonDecreasingBy-from_default}
use Rattle.std.proofs.lemmas.Bool.Decides.{nat_tests}
use Rattle.es_event.specs.declared.row.Row.{Row}
use Rattle.es_ticket.specs.Stakes.{at, placed, removed, is_rising_from}
use Rattle.es_event.specs.Rows.{row}

-- the identity at a place
abbrev id_at : List (ℕ × Row) → ℕ → ℕ
id_at ts i = (get_or ts i (0, row 0 0 0)).0

pub first_above : (n : ℕ) (t : ℕ × Row) (ts : List (ℕ × Row)) → is_rising_from n (t ∷ ts) ≡ true → n < t.0
first_above n t ts h = grind (arith, nat_tests)

pub rest_rises : (n : ℕ) (t : ℕ × Row) (ts : List (ℕ × Row)) → is_rising_from n (t ∷ ts) ≡ true → is_rising_from t.0 ts ≡ true
rest_rises n t ts h = grind (arith, nat_tests)

pub rises : (n : ℕ) (t : ℕ × Row) (ts : List (ℕ × Row)) → n < t.0 → is_rising_from t.0 ts ≡ true → is_rising_from n (t ∷ ts) ≡ true
rises n t ts above h = grind (arith, nat_tests)

ids_above : (n : ℕ) (ts : List (ℕ × Row)) → is_rising_from n ts ≡ true → (i : ℕ) → i < length ts → n < id_at ts i
ids_above n [] h i less = absurd (omega arith)
ids_above n (t ∷ ts) h zero less = first_above n t ts h
ids_above n (t ∷ ts) h (suc i) less = (let a = first_above n t ts h in let b = ids_above t.0 ts (rest_rises n t ts h) i (omega arith) in omega arith)

ids_rise : (n : ℕ) (ts : List (ℕ × Row)) → is_rising_from n ts ≡ true → (i j : ℕ) → i ≤ j → j < length ts → id_at ts i ≤ id_at ts j
ids_rise n [] h i j le less = absurd (omega arith)
ids_rise n (t ∷ ts) h zero zero le less = omega arith
ids_rise n (t ∷ ts) h zero (suc j) le less = (let b = ids_above t.0 ts (rest_rises n t ts h) j (omega arith) in omega arith)
ids_rise n (t ∷ ts) h (suc i) zero le less = absurd (omega arith)
ids_rise n (t ∷ ts) h (suc i) (suc j) le less = ids_rise t.0 ts (rest_rises n t ts h) i j (omega arith) (omega arith)

-- the one at a place whose identity is k
found_at : (n k i : ℕ) (ts : List (ℕ × Row)) → is_rising_from n ts ≡ true → i < length ts → id_at ts i ≡ k → (removed k ts ≡ remove ts i) × ((d : ℕ × Row) → at k ts ≡ Some (get_or ts i d).1)
found_at n k i [] h less is = absurd (omega arith)
found_at n k zero (t ∷ ts) h less is = (grind (arith, nat_tests), λ d. grind (arith, nat_tests))
found_at n k (suc i) (t ∷ ts) h less is =
    let rest = found_at t.0 k i ts (rest_rises n t ts h) (omega arith) is in
    let below : t.0 < k = (let a = ids_above t.0 ts (rest_rises n t ts h) i (omega arith) in omega arith) in
    ((let a = rest.0 in grind (arith, nat_tests)), λ d. (let a = rest.1 d in grind (arith, nat_tests)))

-- no identity is k, and where it would come
missing_at : (k i : ℕ) (ts : List (ℕ × Row)) → i ≤ length ts → ((j : ℕ) → j < i → id_at ts j < k) → ((j : ℕ) → i ≤ j → j < length ts → k < id_at ts j) → (at k ts ≡ None) × ((r : Row) → placed k r ts ≡ insert ts i (k, r))
missing_at k zero [] le below above = (refl, λ r. refl)
missing_at k (suc i) [] le below above = absurd (omega arith)
missing_at k zero (t ∷ ts) le below above =
    let rest = missing_at k zero ts (omega arith) (λ j lt. absurd (omega arith)) (λ j a b. above (suc j) (omega arith) (omega arith)) in
    let here : k < t.0 = above zero (omega arith) (omega arith) in
    ((let a = rest.0 in grind (arith, nat_tests)), λ r. grind (arith, nat_tests))
missing_at k (suc i) (t ∷ ts) le below above =
    let rest = missing_at k i ts (omega arith) (λ j lt. below (suc j) (omega arith)) (λ j a b. above (suc j) (omega arith) (omega arith)) in
    let here : t.0 < k = below zero (omega arith) in
    ((let a = rest.0 in grind (arith, nat_tests)), λ r. (let a = rest.1 r in grind (arith, nat_tests)))

-- what a binary search says
pub searched : (ts : List (ℕ × Row)) → is_rising_from 0 ts ≡ true → (asked k : ℕ) (r : Result ℕ ℕ) → asked ≡ k → IsSearchInRange r (length ts) → IsBinarySearchResult (λ t. nat_cmp t.0 asked) ts r
    → record {
      found : IfOk r (λ i. (i < length ts) × (removed k ts ≡ remove ts i) × ((d : ℕ × Row) → at k ts ≡ Some (get_or ts i d).1));
      missing : IfErr r (λ i. (i ≤ length ts) × (at k ts ≡ None) × ((q : Row) → placed k q ts ≡ insert ts i (k, q)));
    }
searched ts h asked k (Ok i) same within equal =
    let f = found_at 0 k i ts h within (ranked _ asked _ (sym (equal (0, row 0 0 0))) ∙ same) in
    record { found = (within, f.0, f.1); missing = tt }
searched ts h asked k (Err i) same within parted =
    let rise = IsNonDecreasingBy-from_default (λ t. ordering_index (nat_cmp t.0 asked)) ts (0, row 0 0 0) (λ i j le less. let a = ids_rise 0 ts h i j le less in grind (arith, nat_tests)) in
    let m = missing_at k i ts within
    (λ j lt. let a : id_at ts j < asked = ranked _ asked _ (sym ((parted rise).0 j (0, row 0 0 0) (omega arith) lt)) in omega arith)
    (λ j le lt. let a : asked < id_at ts j = ranked _ asked _ (sym ((parted rise).1 j (0, row 0 0 0) le lt)) in omega arith) in
    record { found = tt; missing = (within, m.0, m.1) }

-- they rise after each change
pub rises_placed : (n k : ℕ) (r : Row) (ts : List (ℕ × Row)) → n < k → is_rising_from n ts ≡ true → at k ts ≡ None → is_rising_from n (placed k r ts) ≡ true
rises_placed n k r [] above h none = grind (arith, nat_tests)
rises_placed n k r (t ∷ ts) above h none = one (nat_lt k t.0) refl (λ lt away. rises_placed t.0 k r ts lt (rest_rises n t ts h) away)
  where
    one : (b : Bool) → nat_lt k t.0 ≡ b → (t.0 < k → at k ts ≡ None → is_rising_from t.0 (placed k r ts) ≡ true) → is_rising_from n (cond b ((k, r) ∷ t ∷ ts) (t ∷ placed k r ts)) ≡ true
    one true less ih = rises n (k, r) (t ∷ ts) above (rises k t ts (grind (arith, nat_tests)) (rest_rises n t ts h))
    one false less ih =
        let apart : t.0 ≢ k = (λ e. grind (arith, nat_tests)) in
        let away : at k ts ≡ None = grind (arith, nat_tests) in
        let behind : t.0 < k = grind (arith, nat_tests) in rises n t (placed k r ts) (first_above n t ts h) (ih behind away)

pub rises_from : (m n : ℕ) (ts : List (ℕ × Row)) → m ≤ n → is_rising_from n ts ≡ true → is_rising_from m ts ≡ true
rises_from m n [] le h = refl
rises_from m n (t ∷ ts) le h = (let a = first_above n t ts h in rises m t ts (omega arith) (rest_rises n t ts h))

pub rises_removed : (n k : ℕ) (ts : List (ℕ × Row)) → is_rising_from n ts ≡ true → is_rising_from n (removed k ts) ≡ true
rises_removed n k [] h = refl
rises_removed n k (t ∷ ts) h = one (t.0 == k) (rises_removed t.0 k ts (rest_rises n t ts h))
  where
    one : (b : Bool) → is_rising_from t.0 (removed k ts) ≡ true → is_rising_from n (cond b ts (t ∷ removed k ts)) ≡ true
    one true ih = (let a = first_above n t ts h in rises_from n t.0 ts (omega arith) (rest_rises n t ts h))
    one false ih = rises n t (removed k ts) (first_above n t ts h) ih

pub rises_before : (n : ℕ) (xs ys : List (ℕ × Row)) → is_rising_from n (xs ++ ys) ≡ true → is_rising_from n xs ≡ true
rises_before n [] ys h = refl
rises_before n (x ∷ xs) ys h = rises n x xs (first_above n x (xs ++ ys) h) (rises_before x.0 xs ys (rest_rises n x (xs ++ ys) h))
