-- Waiters leave the list of a word.
use Rattle.std.proofs.Common.{◌≡◌, ℕ, zero, suc, ◌+◌, ◌<◌, ◌≤◌, ◌==◌, List, [], ◌∷◌, Bool, true, false, cond, take, drop, filter, refl, sym, ap, ◌∙◌, arith, length, Some}
use Rattle.std.proofs.lemmas.Bool.{eqb-true, eqb-false}
use Rattle.std.specs.Prelude.{slice_get, slice_index_or}
use Rattle.std.specs.List.{remove}
use Rattle.es_event.proofs.Entries.{inner}
use Rattle.es_event.specs.declared.waiter.Waiter.{Waiter}
use Rattle.es_event.specs.Waiters.{is_at, without_first, without_one}

-- none before a place is at the word
abbrev pub NoneBefore : ℕ → ℕ → ℕ → List Waiter → Type 0
NoneBefore b i p ws = (j : ℕ) (w : Waiter) → j < p → slice_get ws j ≡ Some w → is_at b i w ≡ false

pub at_place : (ws : List Waiter) (p : ℕ) (w : Waiter) → p < length ws → w ≡ slice_index_or ws p w → slice_get ws p ≡ Some w
at_place [] p w below is = absurd (omega (arith, below))
at_place (x ∷ xs) zero w below is = ap Some (sym is)
at_place (x ∷ xs) (suc p) w below is = at_place xs p w (omega (arith, below)) is

pub taken_here : (b i p : ℕ) (ws : List Waiter) (w : Waiter) → NoneBefore b i p ws → slice_get ws p ≡ Some w → is_at b i w ≡ true → remove ws p ≡ without_one b i ws
taken_here b i p [] w before is here = cc
taken_here b i zero (x ∷ xs) w before is here =
    let same : x ≡ w = cc in
    sym (ap (λ t. cond t xs (x ∷ without_one b i xs)) (ap (is_at b i) same ∙ here))
taken_here b i (suc p) (x ∷ xs) w before is here =
    ap (λ ws. x ∷ ws) (taken_here b i p xs w (λ j v less at. before (suc j) v (omega (arith, less)) at) is here)
    ∙ sym (ap (λ t. cond t xs (x ∷ without_one b i xs)) (before 0 x (omega arith) refl))

pub none_taken : (b i p : ℕ) (ws : List Waiter) → NoneBefore b i p ws → length ws ≤ p → ws ≡ without_one b i ws
none_taken b i p [] before long = refl
none_taken b i zero (x ∷ xs) before long = absurd (omega (arith, long))
none_taken b i (suc p) (x ∷ xs) before long =
    ap (λ ws. x ∷ ws) (none_taken b i p xs (λ j v less at. before (suc j) v (omega (arith, less)) at) (omega (arith, long)))
    ∙ sym (ap (λ t. cond t xs (x ∷ without_one b i xs)) (before 0 x (omega arith) refl))

pub one_more : (b i p : ℕ) (ws : List Waiter) (w : Waiter) → NoneBefore b i p ws → slice_get ws p ≡ Some w → is_at b i w ≡ false → NoneBefore b i (p + 1) ws
one_more b i p ws w before is other j v less at = step (j == p) refl
  where
    step : (t : Bool) → (j == p) ≡ t → is_at b i v ≡ false
    step true e =
        let same : v ≡ w = inner (sym at ∙ ap (slice_get ws) (eqb-true j p e) ∙ is) in
        ap (is_at b i) same ∙ other
    step false e = let apart = eqb-false j p e in before j v (omega (arith, less, apart)) at

-- How many are taken

filtered_one : (b i : ℕ) (ws : List Waiter) → filter (is_at b i) (without_one b i ws) ≡ drop 1 (filter (is_at b i) ws)
filtered_one b i [] = refl
filtered_one b i (w ∷ ws) = by (is_at b i w) refl (filtered_one b i ws)
  where
    by : (t : Bool) → is_at b i w ≡ t → filter (is_at b i) (without_one b i ws) ≡ drop 1 (filter (is_at b i) ws)
        → filter (is_at b i) (cond t ws (w ∷ without_one b i ws)) ≡ drop 1 (cond t (w ∷ filter (is_at b i) ws) (filter (is_at b i) ws))
    by true is rest = refl
    by false is rest = ap (λ t. cond t (w ∷ filter (is_at b i) (without_one b i ws)) (filter (is_at b i) (without_one b i ws))) is ∙ rest

length_one : (b i : ℕ) (ws : List Waiter) → length (without_one b i ws) + length (take 1 (filter (is_at b i) ws)) ≡ length ws
length_one b i [] = refl
length_one b i (w ∷ ws) = by (is_at b i w) (length_one b i ws)
  where
    by : (t : Bool) → length (without_one b i ws) + length (take 1 (filter (is_at b i) ws)) ≡ length ws
        → length (cond t ws (w ∷ without_one b i ws)) + length (take 1 (cond t (w ∷ filter (is_at b i) ws) (filter (is_at b i) ws))) ≡ suc (length ws)
    by true rest = omega arith
    by false rest = omega (arith, rest)

drop_more : {X : Type 0} (n : ℕ) (xs : List X) → drop 1 (drop n xs) ≡ drop (suc n) xs
drop_more zero xs = refl
drop_more (suc n) [] = refl
drop_more (suc n) (x ∷ xs) = drop_more n xs

take_more : {X : Type 0} (n : ℕ) (xs : List X) → length (take (suc n) xs) ≡ length (take n xs) + length (take 1 (drop n xs))
take_more zero [] = refl
take_more zero (x ∷ xs) = omega arith
take_more (suc n) [] = refl
take_more (suc n) (x ∷ xs) = let rest = take_more n xs in omega (arith, rest)

pub filtered_first : (b i n : ℕ) (ws : List Waiter) → filter (is_at b i) (without_first b i n ws) ≡ drop n (filter (is_at b i) ws)
filtered_first b i zero ws = refl
filtered_first b i (suc n) ws = filtered_one b i (without_first b i n ws) ∙ ap (drop 1) (filtered_first b i n ws) ∙ drop_more n (filter (is_at b i) ws)

pub length_first : (b i n : ℕ) (ws : List Waiter) → length (without_first b i n ws) + length (take n (filter (is_at b i) ws)) ≡ length ws
length_first b i zero ws = omega arith
length_first b i (suc n) ws =
    let rest = length_first b i n ws in
    let one = length_one b i (without_first b i n ws) in
    let next : length (take 1 (filter (is_at b i) (without_first b i n ws))) ≡ length (take 1 (drop n (filter (is_at b i) ws))) = ap (λ xs. length (take 1 xs)) (filtered_first b i n ws) in
    let more = take_more n (filter (is_at b i) ws) in
    omega (arith, rest, one, next, more)

-- so many are taken as left
pub taken_so : (b i n k m : ℕ) (ws vs : List Waiter) → vs ≡ without_first b i n ws → k + m ≡ length ws → m ≡ length vs → k ≡ length (take n (filter (is_at b i) ws))
taken_so b i n k m ws vs left all long =
    let many : length vs ≡ length (without_first b i n ws) = ap (λ ws. length ws) left in
    let whole = length_first b i n ws in
    omega (arith, many, whole, all, long)
