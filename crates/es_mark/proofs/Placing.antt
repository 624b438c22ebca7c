-- The places of ways: of an empty list, and of a list with one more way.
use Rattle.std.proofs.Common.{◌≡◌, ℕ, ◌+◌, ◌<◌, ◌≤◌, ◌==◌, ◌&&◌, ◌||◌, Bool, true, false, sym, ◌∙◌, ap, subst, arith, zero, suc, List, [], ◌∷◌, ◌++◌, length, take, replicate, nat_lt, nat_le, inl, inr, refl}
use Rattle.std.proofs.Math.ListN.{set, get_or, length-set}
use Rattle.std.proofs.lemmas.Bool.{cases_Bool, both_ways, and_from, and_left, and_right, eqb-true, eqb-false, lt-ltb, le-ltb, le-leb, ltb-true, ltb-false, false_from_ne_true}
use Rattle.std.proofs.lemmas.Bool.Decides.{nat_tests}
use Rattle.std.proofs.lemmas.List.{get_or-set_same, get_or-set_other, get_or_past, get_or_read, get_or-replicate, length-replicate, length_push, take_all}
use Rattle.es_mark.specs.declared.way.Way.{Way}
use Rattle.es_mark.specs.Ways.{has_way}
use Rattle.es_mark.specs.Placed.{free, ArePlaced}
use Rattle.es_mark.proofs.Adding.{has_take}

take_nil : (d : ℕ) → take {A = Way} d [] ≡ []
take_nil zero = refl
take_nil (suc d) = refl

-- No way

zeros : (n i : ℕ) → get_or (replicate {A = ℕ} n 0) i 0 ≡ 0
zeros n i = elim (cases_Bool (nat_lt i n)) [
  | inl l ↦ get_or-replicate {A = ℕ} n i 0 0 (ltb-true _ _ l)
  | inr g ↦ get_or_past (replicate {A = ℕ} n 0) i 0 (omega (arith, length-replicate {A = ℕ} n 0, ltb-false _ _ g))
]

all_free : (n : ℕ) → free (replicate {A = ℕ} n 0) ≡ n
all_free zero = refl
all_free (suc n) = omega (arith, all_free n)

pub placed_none : (n : ℕ) → ArePlaced [] (replicate {A = ℕ} n 0)
placed_none n = record {
  placed = λ i d. rw (take_nil d, zeros n i) refl;
  count = omega (arith, all_free n, length-replicate {A = ℕ} n 0);
}

-- Tests

suc_lt : (a b : ℕ) → nat_lt (suc a) (suc b) ≡ nat_lt a b
suc_lt a b = grind (arith, nat_tests)

below_within : (n d : ℕ) → nat_lt n d ≡ (nat_lt 0 (suc n) && nat_le (suc n) d)
below_within n d = grind (arith, nat_tests)

-- what is not even among its own first has place 0
none_within : (p : ℕ) → (nat_lt 0 p && nat_le p p) ≡ false → p ≡ 0
none_within zero e = refl
none_within (suc p) e =
    let own : (nat_lt 0 (suc p) && nat_le (suc p) (suc p)) ≡ true = and_from (nat_lt 0 (suc p)) (nat_le (suc p) (suc p)) (lt-ltb 0 (suc p) (omega arith)) (le-leb (suc p) (suc p) (omega arith)) in
    absurd (both_ways _ e own)

and_true : (b : Bool) → (b && true) ≡ b
and_true true = refl
and_true false = refl

or_false : (b t : Bool) → (b || (t && false)) ≡ b
or_false true t = refl
or_false false true = refl
or_false false false = refl

-- One more way

module _ (w : Way) (i : ℕ) where
  pub take_push : (ws : List Way) (d : ℕ) → has_way (take d (ws ++ w ∷ [])) i ≡ (has_way (take d ws) i || (nat_lt (length ws) d && (w.value == i)))
  take_push [] zero = refl
  take_push [] (suc d) = elim (cases_Bool (w.value == i)) [
    | inl s ↦ rw s (sym (and_from (nat_lt 0 (suc d)) true (lt-ltb 0 (suc d) (omega arith)) refl))
    | inr s ↦ rw s (ap (λ (l : List Way). has_way l i) (take_nil d) ∙ sym (and_right (nat_lt 0 (suc d)) false refl))
  ]
  take_push (x ∷ xs) zero = sym (and_left (nat_lt (suc (length xs)) 0) (w.value == i) (le-ltb (suc (length xs)) 0 (omega arith)))
  take_push (x ∷ xs) (suc d) = elim (cases_Bool (x.value == i)) [
    | inl s ↦ rw s refl
    | inr s ↦ rw s (take_push xs d ∙ ap (λ (b : Bool). has_way (take d xs) i || (b && (w.value == i))) (sym (suc_lt (length xs) d)))
  ]

one_fewer : (places : List ℕ) (v p : ℕ) → v < length places → get_or places v 0 ≡ 0 → free (set places v (suc p)) + 1 ≡ free places
one_fewer [] v p l e = absurd (omega arith)
one_fewer (zero ∷ places) zero p l e = omega arith
one_fewer (suc q ∷ places) zero p l e = absurd (omega arith)
one_fewer (zero ∷ places) (suc v) p l e = omega (arith, one_fewer places v p (omega arith) e)
one_fewer (suc q ∷ places) (suc v) p l e = one_fewer places v p (omega arith) e

module _ (ws : List Way) (places : List ℕ) (w : Way) (a : ArePlaced ws places) (l : w.value < length places) (new : has_way ws w.value ≡ false) where
  lacks : (d : ℕ) → has_way (take d ws) w.value ≡ false
  lacks d = false_from_ne_true (has_way (take d ws) w.value) (λ e. both_ways (has_way ws w.value) new (has_take d ws w.value e))

  was_none : get_or places w.value 0 ≡ 0
  was_none = none_within (get_or places w.value 0) (sym (a.placed w.value (get_or places w.value 0)) ∙ lacks (get_or places w.value 0))

  after : (i d : ℕ) → has_way (take d (ws ++ w ∷ [])) i ≡ (nat_lt 0 (get_or (set places w.value (suc (length ws))) i 0) && nat_le (get_or (set places w.value (suc (length ws))) i 0) d)
  after i d = elim (cases_Bool (w.value == i)) [
    | inl s ↦
        let same : w.value ≡ i = eqb-true w.value i s in
        let lack : has_way (take d ws) i ≡ false = subst (λ (j : ℕ). has_way (take d ws) j ≡ false) same (lacks d) in
        let own : get_or (set places w.value (suc (length ws))) i 0 ≡ suc (length ws) =
        subst (λ (j : ℕ). get_or (set places w.value (suc (length ws))) j 0 ≡ suc (length ws)) same (get_or-set_same places w.value (suc (length ws)) 0 l) in
        let left : (has_way (take d ws) i || (nat_lt (length ws) d && (w.value == i))) ≡ nat_lt (length ws) d = rw (lack, s) (and_true (nat_lt (length ws) d)) in
        take_push w i ws d ∙ left ∙ below_within (length ws) d ∙ ap (λ (p : ℕ). nat_lt 0 p && nat_le p d) (sym own)
    | inr s ↦
        let other : get_or (set places w.value (suc (length ws))) i 0 ≡ get_or places i 0 =
        get_or-set_other places w.value i (suc (length ws)) 0 (λ e. eqb-false w.value i s (sym e)) in
        let left : (has_way (take d ws) i || (nat_lt (length ws) d && (w.value == i))) ≡ has_way (take d ws) i = rw s (or_false (has_way (take d ws) i) (nat_lt (length ws) d)) in
        take_push w i ws d ∙ left ∙ a.placed i d ∙ ap (λ (p : ℕ). nat_lt 0 p && nat_le p d) (sym other)
  ]

  pub placed_more : (p : ℕ) → p ≡ length ws + 1 → ArePlaced (ws ++ w ∷ []) (set places w.value p)
  placed_more p is =
      let e : suc (length ws) ≡ p = omega arith in
      subst (λ (q : ℕ). ArePlaced (ws ++ w ∷ []) (set places w.value q)) e record {
        placed = after;
        count = omega (arith, one_fewer places w.value (length ws) l was_none, a.count, length-set places w.value (suc (length ws)), length_push ws w);
      }

-- What the code reads

-- a place of the table
pub is_placed : (ws : List Way) (places : List ℕ) (n i d place : ℕ) (r : Bool) → ArePlaced ws places → n ≡ i → n < length places → place ≡ get_or places n place → r ≡ (nat_lt 0 place && nat_le place d)
    → r ≡ has_way (take d ws) i
is_placed ws places n i d place r a same l is tested =
    let read : place ≡ get_or places n 0 = get_or_read places n place l is 0 in
    let here : place ≡ get_or places i 0 = read ∙ ap (λ (j : ℕ). get_or places j 0) same in
    tested ∙ ap (λ (p : ℕ). nat_lt 0 p && nat_le p d) here ∙ sym (a.placed i d)

-- past the table
pub is_past : (ws : List Way) (places : List ℕ) (n i d : ℕ) → ArePlaced ws places → n ≡ i → length places ≤ n → false ≡ has_way (take d ws) i
is_past ws places n i d a same l =
    let none : get_or places i 0 ≡ 0 = ap (λ (j : ℕ). get_or places j 0) (sym same) ∙ get_or_past places n 0 l in
    sym (a.placed i d ∙ ap (λ (p : ℕ). nat_lt 0 p && nat_le p d) none)

-- among all ways
pub among_all : (ws : List Way) (n i : ℕ) → n ≡ length ws → has_way (take n ws) i ≡ has_way ws i
among_all ws n i is = ap (λ (l : List Way). has_way l i) (take_all n ws (omega arith))
