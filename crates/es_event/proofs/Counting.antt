-- How many numbers of a range pass a test, and the first that does.
use Rattle.std.proofs.Common.{◌≡◌, ℕ, zero, suc, ◌+◌, ◌<◌, ◌≤◌, ◌==◌, Bool, true, false, cond, sym, ◌∙◌, refl, ap, subst, arith, List, [], ◌∷◌, Some, inl, inr}
use Rattle.std.specs.Prelude.{is_some}
use Rattle.std.specs.List.{find, list_any, count_by, range_with_len}
use Rattle.std.proofs.lemmas.Bool.{eqb-true, false≢true, false_from_ne_true, or_cases, or_left, or_right, cases_lt}
use Rattle.std.proofs.lemmas.List.Sums.{sum_by-cons}
use Rattle.es_event.specs.Identities.{is_in}

-- Counts

counted : (p : ℕ → Bool) (x : ℕ) (xs : List ℕ) → count_by p (x ∷ xs) ≡ cond (p x) 1 0 + count_by p xs
counted p x xs = sum_by-cons (λ x. cond (p x) 1 0) x xs

one_least : (a b : Bool) → (a ≡ true → b ≡ true) → cond a 1 0 ≤ cond b 1 0
one_least true true imp = omega arith
one_least true false imp = absurd (false≢true (imp refl))
one_least false true imp = omega arith
one_least false false imp = omega arith

-- what passes the first test passes the second, and is within its range
abbrev pub PassesToo : (ℕ → Bool) → (ℕ → Bool) → ℕ → Type 0
PassesToo p q bound = (i : ℕ) → p i ≡ true → (q i ≡ true) × (i < bound)

pub count_least : (p q : ℕ → Bool) (a n m : ℕ) → PassesToo p q (a + m) → count_by p (range_with_len a n) ≤ count_by q (range_with_len a m)
count_least p q a zero m each = omega arith
count_least p q a (suc n) zero each =
    let none : p a ≡ false = false_from_ne_true (p a) (λ e. omega (arith, (each a e).1)) in
    let here : ◌≡◌ {A = ℕ} (cond (p a) 1 0) 0 = ap (λ b. cond b 1 0) none in
    let rest : count_by p (range_with_len (a + 1) n) ≤ 0 = count_least p q (a + 1) n zero (λ i e. ((each i e).0, omega (arith, (each i e).1))) in
    omega (arith, counted p a (range_with_len (a + 1) n), here, rest)
count_least p q a (suc n) (suc m) each =
    let here : cond (p a) 1 0 ≤ cond (q a) 1 0 = one_least (p a) (q a) (λ e. (each a e).0) in
    let rest = count_least p q (a + 1) n m (λ i e. ((each i e).0, omega (arith, (each i e).1))) in
    omega (arith, counted p a (range_with_len (a + 1) n), counted q a (range_with_len (a + 1) m), here, rest)

-- where k passes the second test alone, fewer pass the first
pub count_fewer : (p q : ℕ → Bool) (a n k : ℕ) → PassesToo p q (a + n) → a ≤ k → k < a + n → p k ≡ false → q k ≡ true → count_by p (range_with_len a n) < count_by q (range_with_len a n)
count_fewer p q a zero k each l m f t = absurd (omega arith)
count_fewer p q a (suc n) k each l m f t =
    let later : PassesToo p q ((a + 1) + n) = λ i e. ((each i e).0, omega (arith, (each i e).1)) in
    let of_p = counted p a (range_with_len (a + 1) n) in
    let of_q = counted q a (range_with_len (a + 1) n) in
    elim (cases_lt a k) [
      | inl less ↦
          let here : cond (p a) 1 0 ≤ cond (q a) 1 0 = one_least (p a) (q a) (λ e. (each a e).0) in
          let rest = count_fewer p q (a + 1) n k later (omega arith) (omega arith) f t in
          omega (arith, of_p, of_q, here, rest)
      | inr most ↦
          let same : k ≡ a = omega arith in
          let first : ◌≡◌ {A = ℕ} (cond (p a) 1 0) 0 = ap (λ b. cond b 1 0) (subst (λ i. p i ≡ false) same f) in
          let second : ◌≡◌ {A = ℕ} (cond (q a) 1 0) 1 = ap (λ b. cond b 1 0) (subst (λ i. q i ≡ true) same t) in
          let rest = count_least p q (a + 1) n n later in
          omega (arith, of_p, of_q, first, second, rest)
    ]

pub count_none : (p : ℕ → Bool) (a n : ℕ) → ((i : ℕ) → p i ≡ true → ⊥) → count_by p (range_with_len a n) ≡ 0
count_none p a n none = let most : count_by p (range_with_len a n) ≤ 0 = count_least p p a n zero (λ i e. absurd (none i e)) in omega arith

-- The first that passes

pub found_passes : (p : ℕ → Bool) (xs : List ℕ) (n : ℕ) → find p xs ≡ Some n → p n ≡ true
found_passes p [] n e = cc
found_passes p (x ∷ xs) n e =
    elim (p x) as (λ b. p x ≡ b → cond b (Some x) (find p xs) ≡ Some n → p n ≡ true)
    [ true ↦ λ t f. let same : x ≡ n = cc in subst (λ k. p k ≡ true) same t | false ↦ λ t f. found_passes p xs n f ] refl e

-- where a member passes, one is found
pub is_found : (p : ℕ → Bool) (xs : List ℕ) (i : ℕ) → is_in xs i ≡ true → p i ≡ true → is_some (find p xs) ≡ true
is_found p [] i m e = absurd (false≢true m)
is_found p (x ∷ xs) i m e =
    elim (p x) as (λ b. p x ≡ b → is_some (cond b (Some x) (find p xs)) ≡ true) [
      | true ↦ λ t. refl
      | false ↦ λ f. elim (or_cases (x == i) (is_in xs i) m) [
        | inl s ↦ absurd (false≢true (sym f ∙ (ap p (eqb-true x i s) ∙ e)))
        | inr r ↦ is_found p xs i r e
      ]
    ] refl

-- where a member passes, one does
pub any_from : (p : ℕ → Bool) (xs : List ℕ) (i : ℕ) → is_in xs i ≡ true → p i ≡ true → list_any p xs ≡ true
any_from p [] i m e = absurd (false≢true m)
any_from p (x ∷ xs) i m e =
    elim (or_cases (x == i) (is_in xs i) m) [
      | inl s ↦ or_left (p x) (list_any p xs) (ap p (eqb-true x i s) ∙ e)
      | inr r ↦ or_right (p x) (list_any p xs) (any_from p xs i r e)
    ]
