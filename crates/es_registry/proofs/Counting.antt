-- How many slots there are of each fate, after some of them changed.
use Rattle.std.proofs.Common.{◌≡◌, ℕ, suc, zero, ◌+◌, ◌<◌, ◌≤◌, Bool, true, false, cond, List, [], ◌∷◌, ◌++◌, Option, Some, None, is_some, is_none, length, set, get_or, refl, arith, map}
use Rattle.std.specs.List.{count_by}
use Rattle.std.proofs.lemmas.List.{length-set}
use Rattle.std.proofs.lemmas.List.Sums.{count_by-le-length, sum_by-append, sum_by-set, sum_by-cons}
use Rattle.es_registry.specs.declared.slot.Slot.{Slot}
use Rattle.es_registry.specs.declared.slot.Slot.TheVariants.{Present, Unregistered, Taken}
use Rattle.es_registry.specs.Slots.{is_present, is_live, is_awaiting, is_unregistered, is_taken, passes_at, emptied}

pub within : (test : Slot → Bool) (xs : List Slot) (k : ℕ) → passes_at test xs k ≡ true → k < length xs
within test [] k here = cc
within test (x ∷ xs) zero here = omega arith
within test (x ∷ xs) (suc k) here = let rest : k < length xs = within test xs k here in omega arith

passing : (test : Slot → Bool) (xs : List Slot) (k : ℕ) (d : Slot) → passes_at test xs k ≡ true → test (get_or xs k d) ≡ true
passing test [] k d here = cc
passing test (x ∷ xs) zero d here = here
passing test (x ∷ xs) (suc k) d here = passing test xs k d here

-- how a count changes where a slot, of which b says whether it counted, is replaced
count_at_set : (p test : Slot → Bool) (xs : List Slot) (k : ℕ) (y : Slot) (b : Bool) → passes_at test xs k ≡ true → ((s : Slot) → test s ≡ true → p s ≡ b)
    → count_by p (set xs k y) + cond b 1 0 ≡ count_by p xs + cond (p y) 1 0
count_at_set p test xs k y b here is =
    let same : p (get_or xs k y) ≡ b = is (get_or xs k y) (passing test xs k y here) in
    rw (← same) (sum_by-set (λ x. cond (p x) 1 0) xs k y y (within test xs k here))

awaiting_is_not : (s : Slot) → is_awaiting s ≡ true → (is_unregistered s ≡ false) × (is_taken s ≡ false)
awaiting_is_not (Present c) h = (refl, refl)
awaiting_is_not Unregistered h = cc
awaiting_is_not Taken h = cc

present_is_not : (s : Slot) → is_present s ≡ true → (is_unregistered s ≡ false) × (is_taken s ≡ false)
present_is_not (Present c) h = (refl, refl)
present_is_not Unregistered h = cc
present_is_not Taken h = cc

-- after the cell of a slot that awaits its callback was taken
pub record OneTaken (xs ys : List Slot) : Type 0 where
  pub awaiting : count_by is_awaiting ys + 1 ≡ count_by is_awaiting xs
  pub unregistered : count_by is_unregistered ys ≡ count_by is_unregistered xs
  pub taken : count_by is_taken ys ≡ count_by is_taken xs + 1
  pub few : count_by is_taken ys ≤ length xs

pub counts_taken : (xs : List Slot) (k : ℕ) → passes_at is_awaiting xs k ≡ true → OneTaken xs (set xs k Taken)
counts_taken xs k here =
    let a : count_by is_awaiting (set xs k Taken) + 1 ≡ count_by is_awaiting xs + 0 = count_at_set is_awaiting is_awaiting xs k Taken true here (λ s h. h) in
    let u : count_by is_unregistered (set xs k Taken) + 0 ≡ count_by is_unregistered xs + 0 = count_at_set is_unregistered is_awaiting xs k Taken false here (λ s h. (awaiting_is_not s h).0) in
    let t : count_by is_taken (set xs k Taken) + 0 ≡ count_by is_taken xs + 1 = count_at_set is_taken is_awaiting xs k Taken false here (λ s h. (awaiting_is_not s h).1) in
    let le : count_by is_taken (set xs k Taken) ≤ length (set xs k Taken) = count_by-le-length is_taken (set xs k Taken) in
    record { awaiting = omega arith; unregistered = omega arith; taken = omega arith; few = omega (arith, length-set {A = Slot}) }

-- after the cell of a slot was unregistered
pub record OneUnregistered (xs ys : List Slot) (k : ℕ) : Type 0 where
  pub awaiting : count_by is_awaiting ys + cond (passes_at is_awaiting xs k) 1 0 ≡ count_by is_awaiting xs
  pub unregistered : count_by is_unregistered ys ≡ count_by is_unregistered xs + 1
  pub taken : count_by is_taken ys ≡ count_by is_taken xs
  pub few : count_by is_unregistered ys ≤ length xs
  pub place : k < length xs

pub at_place : (test : Slot → Bool) (xs : List Slot) (k : ℕ) (d : Slot) → k < length xs → passes_at test xs k ≡ test (get_or xs k d)
at_place test [] k d here = absurd (omega arith)
at_place test (x ∷ xs) zero d here = refl
at_place test (x ∷ xs) (suc k) d here = let less : k < length xs = omega arith in at_place test xs k d less

pub counts_unregistered : (xs : List Slot) (k : ℕ) → passes_at is_present xs k ≡ true → OneUnregistered xs (set xs k Unregistered) k
counts_unregistered xs k here =
    let lt : k < length xs = within is_present xs k here in
    let a : count_by is_awaiting (set xs k Unregistered) + cond (is_awaiting (get_or xs k Taken)) 1 0 ≡ count_by is_awaiting xs + 0 = sum_by-set (λ x. cond (is_awaiting x) 1 0) xs k Unregistered Taken lt in
    let u : count_by is_unregistered (set xs k Unregistered) + 0 ≡ count_by is_unregistered xs + 1 = count_at_set is_unregistered is_present xs k Unregistered false here (λ s h. (present_is_not s h).0) in
    let t : count_by is_taken (set xs k Unregistered) + 0 ≡ count_by is_taken xs + 0 = count_at_set is_taken is_present xs k Unregistered false here (λ s h. (present_is_not s h).1) in
    let le : count_by is_unregistered (set xs k Unregistered) ≤ length (set xs k Unregistered) = count_by-le-length is_unregistered (set xs k Unregistered) in
    record { awaiting = rw (at_place is_awaiting xs k Taken lt) (omega arith); unregistered = omega arith; taken = omega arith; few = omega (arith, length-set {A = Slot}); place = lt }

one_fate : (s : Slot) → cond (is_live s) 1 0 + (cond (is_awaiting s) 1 0 + cond (is_unregistered s) 1 0 + cond (is_taken s) 1 0) ≡ 1
one_fate (Present c) = grind arith
one_fate Unregistered = refl
one_fate Taken = refl

pub fates_add_up : (xs : List Slot) → count_by is_live xs + (count_by is_awaiting xs + count_by is_unregistered xs + count_by is_taken xs) ≡ length xs
fates_add_up [] = refl
fates_add_up (x ∷ xs) =
    let rest : count_by is_live xs + (count_by is_awaiting xs + count_by is_unregistered xs + count_by is_taken xs) ≡ length xs = fates_add_up xs in
    let one : cond (is_live x) 1 0 + (cond (is_awaiting x) 1 0 + cond (is_unregistered x) 1 0 + cond (is_taken x) 1 0) ≡ 1 = one_fate x in
    simp (sum_by-cons {X = Slot}) (omega arith)

-- after targets were emptied
pub record SomeEmptied (xs ys : List Slot) : Type 0 where
  pub unregistered : count_by is_unregistered ys ≡ count_by is_unregistered xs
  pub taken : count_by is_taken ys ≡ count_by is_taken xs

stays_out : (ids : List ℕ) (s : Slot) → (is_unregistered (emptied ids s) ≡ is_unregistered s) × (is_taken (emptied ids s) ≡ is_taken s)
stays_out ids (Present c) = (refl, refl)
stays_out ids Unregistered = (refl, refl)
stays_out ids Taken = (refl, refl)

count_of_map : (p : Slot → Bool) (f : Slot → Slot) → ((s : Slot) → p (f s) ≡ p s) → (xs : List Slot) → count_by p (map f xs) ≡ count_by p xs
count_of_map p f same [] = refl
count_of_map p f same (x ∷ xs) =
    let rest : count_by p (map f xs) ≡ count_by p xs = count_of_map p f same xs in
    let here : p (f x) ≡ p x = same x in
    simp (sum_by-cons {X = Slot}, rest, here)

pub counts_emptied : (ids : List ℕ) (xs : List Slot) → SomeEmptied xs (map (emptied ids) xs)
counts_emptied ids xs = record {
  unregistered = count_of_map is_unregistered (emptied ids) (λ s. (stays_out ids s).0) xs;
  taken = count_of_map is_taken (emptied ids) (λ s. (stays_out ids s).1) xs;
}

pub few_awaiting : (xs : List Slot) → count_by is_awaiting xs ≤ length xs
few_awaiting xs = count_by-le-length is_awaiting xs

-- after a slot with its target was added
pub record OnePushed (xs ys : List Slot) : Type 0 where
  pub awaiting : count_by is_awaiting ys ≡ count_by is_awaiting xs
  pub unregistered : count_by is_unregistered ys ≡ count_by is_unregistered xs
  pub taken : count_by is_taken ys ≡ count_by is_taken xs

uncounted : (p : Slot → Bool) (s : Slot) → p s ≡ false → (xs : List Slot) → count_by p (xs ++ s ∷ []) ≡ count_by p xs
uncounted p s out xs =
    let one : count_by p (s ∷ []) ≡ 0 = rw out refl in
    let both : count_by p (xs ++ s ∷ []) ≡ count_by p xs + count_by p (s ∷ []) = sum_by-append (λ x. cond (p x) 1 0) xs (s ∷ []) in
    omega arith

live_is_not : (s : Slot) → is_live s ≡ true → (is_awaiting s ≡ false) × (is_unregistered s ≡ false) × (is_taken s ≡ false)
live_is_not (Present c) h = (of_target c.target h, refl, refl)
  where
    of_target : (o : Option ℕ) → is_some o ≡ true → is_none o ≡ false
    of_target None e = cc
    of_target (Some t) e = refl
live_is_not Unregistered h = cc
live_is_not Taken h = cc

pub counts_pushed : (xs : List Slot) (s : Slot) → is_live s ≡ true → OnePushed xs (xs ++ s ∷ [])
counts_pushed xs s live =
    let out = live_is_not s live in
    record { awaiting = uncounted is_awaiting s out.0 xs; unregistered = uncounted is_unregistered s out.1 xs; taken = uncounted is_taken s out.2 xs }
