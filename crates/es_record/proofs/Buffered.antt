-- Buffer objects by rising identity: the newest is the last, and a look-up finds the same from either end.
use Rattle.std.proofs.Common.{◌≡◌, ◌<◌, ◌≤◌, ℕ, [], ◌∷◌, ◌++◌, Bool, true, false, cond, ◌==◌, length, reverse, sym, Option, Some, None, Result, Ok, Err, IfErr, refl, ◌∙◌, ap, arith, inl, inr}
use Rattle.std.specs.Prelude.{slice_index_or}
use Rattle.std.proofs.lemmas.Bool.{cases_Bool, eqb-true}
use Rattle.std.proofs.lemmas.Bool.Decides.{nat_tests}
use Rattle.std.proofs.lemmas.List.{reverse-append}
use Rattle.es_event.specs.declared.row.Row.{Row}
use Rattle.es_event.specs.Sharing.{Buffers, row_at}
use Rattle.es_ticket.specs.Stakes.{at, is_rising_from}
use Rattle.es_record.specs.Newest.{newest}

reversed : (t : ℕ × Row) (ts : Buffers) → reverse (t ∷ ts) ≡ reverse ts ++ t ∷ []
reversed t ts = reverse-append (t ∷ []) ts

first_above : (n : ℕ) (t : ℕ × Row) (ts : Buffers) → is_rising_from n (t ∷ ts) ≡ true → (n < t.0) × (is_rising_from t.0 ts ≡ true)
first_above n t ts h = (grind (arith, nat_tests), grind (arith, nat_tests))

-- The newest

abbrev newest_or : ℕ → Buffers → ℕ
newest_or n [] = n
newest_or n (b ∷ bs) = b.0

newest_is : (bs : Buffers) → newest bs ≡ newest_or 0 bs
newest_is [] = refl
newest_is (b ∷ bs) = refl

newest_before : (n : ℕ) (xs ys : Buffers) → newest_or n (xs ++ ys) ≡ newest_or (newest_or n ys) xs
newest_before n [] ys = refl
newest_before n (x ∷ xs) ys = refl

abbrev last_from : ℕ → Buffers → ℕ
last_from n [] = n
last_from n (t ∷ ts) = last_from t.0 ts

last_is : (n : ℕ) (ts : Buffers) → newest_or n (reverse ts) ≡ last_from n ts
last_is n [] = refl
last_is n (t ∷ ts) = ap (newest_or n) (reversed t ts) ∙ newest_before n (reverse ts) (t ∷ []) ∙ last_is t.0 ts

rises_after : (n : ℕ) (ts : Buffers) (i : ℕ) (r : Row) → is_rising_from n ts ≡ true → last_from n ts < i → is_rising_from n (ts ++ (i, r) ∷ []) ≡ true
rises_after n [] i r h above = grind (arith, nat_tests)
rises_after n (t ∷ ts) i r h above =
    let rest = first_above n t ts h in
    let more = rises_after t.0 ts i r rest.1 above in
    let low = rest.0 in
    grind (arith, nat_tests, more, low)

pub rises_added : (ts : Buffers) (i : ℕ) (r : Row) → is_rising_from 0 ts ≡ true → newest (reverse ts) < i → is_rising_from 0 (ts ++ (i, r) ∷ []) ≡ true
rises_added ts i r h above = let last = newest_is (reverse ts) ∙ last_is 0 ts in rises_after 0 ts i r h (omega (arith, last, above))

-- whether it was added or not
pub rises_either : (added : Bool) (ts : Buffers) (b : ℕ × Row) → is_rising_from 0 ts ≡ true → newest (reverse ts) < b.0 → is_rising_from 0 (cond added (ts ++ b ∷ []) ts) ≡ true
rises_either true ts b h above = rises_added ts b.0 b.1 h above
rises_either false ts b h above = h

-- A look-up

abbrev or_else : {A : Type 0} → Option A → Option A → Option A
or_else None b = b
or_else (Some a) b = Some a

or_none : {A : Type 0} (a : Option A) → or_else a None ≡ a
or_none None = refl
or_none (Some a) = refl

row_before : (xs ys : Buffers) (o : ℕ) → row_at (xs ++ ys) o ≡ or_else (row_at xs o) (row_at ys o)
row_before [] ys o = refl
row_before (x ∷ xs) ys o = elim (cases_Bool (x.0 == o)) [
  | inl t ↦ rw t refl
  | inr f ↦ rw f (row_before xs ys o)
]

none_above : (n : ℕ) (ts : Buffers) (o : ℕ) → is_rising_from n ts ≡ true → o ≤ n → at o ts ≡ None
none_above n [] o h low = refl
none_above n (t ∷ ts) o h low =
    let rest = first_above n t ts h in
    let more = none_above t.0 ts o rest.1 (let a = rest.0 in omega (arith, a, low)) in
    let above = rest.0 in
    grind (arith, nat_tests, more, above, low)

same_from : (n : ℕ) (ts : Buffers) (o : ℕ) → is_rising_from n ts ≡ true → row_at (reverse ts) o ≡ at o ts
same_from n [] o h = refl
same_from n (t ∷ ts) o h =
    let rest = first_above n t ts h in
    ap (λ l. row_at l o) (reversed t ts) ∙ row_before (reverse ts) (t ∷ []) o ∙ ap (λ r. or_else r (row_at (t ∷ []) o)) (same_from t.0 ts o rest.1)
    ∙ elim (cases_Bool (t.0 == o)) [
      | inl is ↦ rw is (ap (λ r. or_else r (Some t.1)) (none_above t.0 ts o rest.1 (let e = eqb-true t.0 o is in omega (arith, e))))
      | inr is ↦ rw is (or_none (at o ts))
    ]

-- the table's look-up is that of the definitions
pub same_row : (ts : Buffers) (o : ℕ) → is_rising_from 0 ts ≡ true → row_at (reverse ts) o ≡ at o ts
same_row ts o h = same_from 0 ts o h

-- of the first object
pub first_row : (ts : Buffers) (o : ℕ) (d e : ℕ × Row) → is_rising_from 0 ts ≡ true → 1 ≤ length ts → ((slice_index_or ts 0 e).0 == o) ≡ true → Some (slice_index_or ts 0 d).1 ≡ row_at (reverse ts) o
first_row [] o d e h some is = absurd (omega arith)
first_row (t ∷ ts) o d e h some is = (let here : at o (t ∷ ts) ≡ Some t.1 = rw is refl in sym here) ∙ sym (same_row (t ∷ ts) o h)

-- what holds at an error
pub err_map : {A E : Type 0} (r : Result A E) (p q : E → Type 0) → ((e : E) → p e → q e) → IfErr r p → IfErr r q
err_map (Ok a) p q f i = tt
err_map (Err e) p q f i = f e i
