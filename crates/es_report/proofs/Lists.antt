-- Histories that are read from the oldest event on, and counts over ranges.
use Rattle.std.proofs.Common.{◌≡◌, ℕ, zero, suc, ◌+◌, ◌<◌, ◌≤◌, Bool, cond, sym, ◌∙◌, refl, ap, arith, List, [], ◌∷◌, ◌++◌, length, map, take, get_or, reverse}
use Rattle.std.specs.List.{count_by, range_with_len}
use Rattle.std.proofs.lemmas.List.{map-append, reverse-append, take_more}
use Rattle.std.proofs.lemmas.List.FromFn.{length-range_with_len}
use Rattle.std.proofs.lemmas.List.Sums.{count_by-le-length, sum_by-cons}

-- one more item comes first
pub reversed_more : {X : Type 0} (xs : List X) (i : ℕ) (x : X) → i < length xs → x ≡ get_or xs i x → reverse (take (i + 1) xs) ≡ x ∷ reverse (take i xs)
reversed_more xs i x within is =
    ap reverse (take_more xs i x within) ∙ reverse-append (take i xs) (get_or xs i x ∷ []) ∙ ap (λ y. y ∷ reverse (take i xs)) (sym is)

counted : (p : ℕ → Bool) (x : ℕ) (xs : List ℕ) → count_by p (x ∷ xs) ≡ cond (p x) 1 0 + count_by p xs
counted p x xs = sum_by-cons (λ x. cond (p x) 1 0) x xs

-- one more number of a range
pub count_last : (p : ℕ → Bool) (a n j : ℕ) → a + n ≡ j → count_by p (range_with_len a (suc n)) ≡ count_by p (range_with_len a n) + cond (p j) 1 0
count_last p a zero j e =
    let same : a ≡ j = omega arith in
    let here : ◌≡◌ {A = ℕ} (cond (p a) 1 0) (cond (p j) 1 0) = ap (λ i. cond (p i) 1 0) same in
    let all : count_by p (a ∷ []) ≡ cond (p a) 1 0 + count_by p [] = counted p a [] in
    let none : ◌≡◌ {A = ℕ} (count_by p []) 0 = refl in
    omega (arith, here, all, none)
count_last p a (suc n) j e =
    let next : (a + 1) + n ≡ j = omega arith in
    omega (arith, counted p a (range_with_len (a + 1) (suc n)), counted p a (range_with_len (a + 1) n), count_last p (a + 1) n j next)

-- two tests that agree on a range count the same there
pub count_alike : (p q : ℕ → Bool) (a n : ℕ) → ((i : ℕ) → a ≤ i → i < a + n → p i ≡ q i) → count_by p (range_with_len a n) ≡ count_by q (range_with_len a n)
count_alike p q a zero same = refl
count_alike p q a (suc n) same =
    let here : ◌≡◌ {A = ℕ} (cond (p a) 1 0) (cond (q a) 1 0) = ap (λ b. cond b 1 0) (same a (omega arith) (omega arith)) in
    let rest : count_by p (range_with_len (a + 1) n) ≡ count_by q (range_with_len (a + 1) n) = count_alike p q (a + 1) n (λ i low high. same i (omega arith) (omega arith)) in
    omega (arith, here, rest, counted p a (range_with_len (a + 1) n), counted q a (range_with_len (a + 1) n))

pub count_few : (p : ℕ → Bool) (a n c : ℕ) → c ≡ count_by p (range_with_len a n) → c ≤ n
count_few p a n c is = omega (arith, is, count_by-le-length p (range_with_len a n), length-range_with_len a n)

-- one more number is counted, from 1 on
pub count_next : (p : ℕ → Bool) (n c more : ℕ) → c ≡ count_by p (range_with_len 1 n) → more ≡ c + cond (p (n + 1)) 1 0 → more ≡ count_by p (range_with_len 1 (n + 1))
count_next p n c more before added =
    let next : suc n ≡ n + 1 = omega arith in
    let all : count_by p (range_with_len 1 (n + 1)) ≡ count_by p (range_with_len 1 n) + cond (p (n + 1)) 1 0
    = ap (λ k. count_by p (range_with_len 1 k)) (sym next) ∙ count_last p 1 n (n + 1) (omega arith) in
    omega (arith, before, added, all)

-- one more item of a list of lists
pub mapped_more : {X Y : Type 0} (f : X → Y) (xs : List X) (i : ℕ) (x : X) (ys more : List Y) → i < length xs → x ≡ get_or xs i x → ys ≡ map f (take i xs) → more ≡ ys ++ f x ∷ [] → more ≡ map f (take (i + 1) xs)
mapped_more f xs i x ys more within is before added =
    added ∙ ap (λ l. l ++ f x ∷ []) before ∙ sym (ap (map f) (take_more xs i x within) ∙ map-append f (take i xs) (get_or xs i x ∷ []) ∙ ap (λ y. map f (take i xs) ++ f y ∷ []) (sym is))
