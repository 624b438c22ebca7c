-- Ways that are found by number: one more, and what they are all together.
use Rattle.std.proofs.Common.{◌≡◌, ℕ, zero, suc, ◌+◌, ◌<◌, ◌≤◌, ◌==◌, true, false, sym, ◌∙◌, ap, subst, arith, List, [], ◌∷◌, ◌++◌, Option, Some, None, inl, inr, refl, add-one}
use Rattle.std.specs.List.{AllByRecursion, range_with_len}
use Rattle.std.proofs.lemmas.Bool.{cases_Bool, or_cases, or_left, or_right, eqb-true, eqb-false, eq-eqb, false≢true}
use Rattle.std.proofs.lemmas.List.{append-nil, append_assoc}
use Rattle.es_value.specs.Ids.{is_in}
use Rattle.es_mark.specs.declared.step.Step.{Step}
use Rattle.es_mark.specs.declared.way.Way.{Way}
use Rattle.es_mark.specs.Ways.{has_way}
use Rattle.es_mark.specs.Search.{way_to}
use Rattle.es_mark.proofs.Adding.{has_front, has_back}
use Rattle.es_mark.proofs.Lists.{all_join}
use Rattle.es_why.specs.Numbered.{way_if, numbered}

pub range_more : (a n : ℕ) → range_with_len a (suc n) ≡ range_with_len a n ++ (a + n) ∷ []
range_more a zero = let same : a ≡ a + 0 = omega arith in ap (λ (j : ℕ). j ∷ []) same
range_more a (suc n) =
    let same : a + 1 + n ≡ a + suc n = omega arith in
    ap (λ (xs : List ℕ). a ∷ xs) (range_more (a + 1) n ∙ ap (λ (j : ℕ). range_with_len (a + 1) n ++ j ∷ []) same)

pub in_range : (a n i : ℕ) → a ≤ i → i < a + n → is_in (range_with_len a n) i ≡ true
in_range a zero i l m = absurd (omega (arith, l, m))
in_range a (suc n) i l m = elim (cases_Bool (a == i)) [
  | inl s ↦ or_left (a == i) (is_in (range_with_len (a + 1) n) i) s
  | inr s ↦
      let more : a + 1 ≤ i = let ne : a ≡ i → ⊥ = eqb-false a i s in omega (arith, l, ne) in
      or_right (a == i) (is_in (range_with_len (a + 1) n) i) (in_range (a + 1) n i more (omega (arith, m)))
]

module _ (at_number : ℕ → Option ℕ) (step : ℕ → Step) where
  numbered_append : (xs ys : List ℕ) → numbered at_number step (xs ++ ys) ≡ numbered at_number step xs ++ numbered at_number step ys
  numbered_append [] ys = refl
  numbered_append (x ∷ xs) ys =
      ap (λ (l : List Way). way_if (step x) (at_number x) ++ l) (numbered_append xs ys)
      ∙ sym (append_assoc (way_if (step x) (at_number x)) (numbered at_number step xs) (numbered at_number step ys))

  -- one number more of a list
  pub numbered_push : (ns : List ℕ) (n : ℕ) (old now new : List Way) (id : Option ℕ) → now ≡ old ++ numbered at_number step ns → id ≡ at_number n → new ≡ now ++ way_if (step n) id
      → new ≡ old ++ numbered at_number step (ns ++ n ∷ [])
  numbered_push ns n old now new id was found is =
      is ∙ ap (λ (o : Option ℕ). now ++ way_if (step n) o) found ∙ ap (λ (l : List Way). l ++ way_if (step n) (at_number n)) was
      ∙ append_assoc old (numbered at_number step ns) (way_if (step n) (at_number n))
      ∙ ap (λ (l : List Way). old ++ l)
      (ap (λ (l : List Way). numbered at_number step ns ++ l) (sym (append-nil (way_if (step n) (at_number n)))) ∙ sym (numbered_append ns (n ∷ [])))

  -- one number more of a range
  pub numbered_more : (a n m : ℕ) (old now new : List Way) (id : Option ℕ) → m ≡ a + n → now ≡ old ++ numbered at_number step (range_with_len a n) → id ≡ at_number m → new ≡ now ++ way_if (step m) id
      → new ≡ old ++ numbered at_number step (range_with_len a (n + 1))
  numbered_more a n m old now new id here was found is =
      let next : range_with_len a n ++ m ∷ [] ≡ range_with_len a (n + 1) =
      ap (λ (j : ℕ). range_with_len a n ++ j ∷ []) here ∙ sym (range_more a n) ∙ ap (range_with_len a) (sym (add-one n)) in
      numbered_push (range_with_len a n) m old now new id was found is ∙ ap (λ (l : List ℕ). old ++ numbered at_number step l) next

  -- what is found leads from its number
  pub numbered_only : (P : Way → Type 0) (ns : List ℕ) → ((n i : ℕ) → is_in ns n ≡ true → at_number n ≡ Some i → P (way_to i (step n))) → AllByRecursion P (numbered at_number step ns)
  numbered_only P [] each = tt
  numbered_only P (n ∷ ns) each =
      all_join P (way_if (step n) (at_number n)) (numbered at_number step ns) (one (at_number n) refl)
      (numbered_only P ns (λ m i e at_m. each m i (or_right (n == m) (is_in ns m) e) at_m))
    where
      one : (o : Option ℕ) → at_number n ≡ o → AllByRecursion P (way_if (step n) o)
      one None e = tt
      one (Some i) e = (each n i (or_left (n == n) (is_in ns n) (eq-eqb n n refl)) e, tt)

  -- what stands at a number of the list is found
  pub numbered_every : (ns : List ℕ) (n i : ℕ) → is_in ns n ≡ true → at_number n ≡ Some i → has_way (numbered at_number step ns) i ≡ true
  numbered_every [] n i e at_n = absurd (false≢true e)
  numbered_every (m ∷ ns) n i e at_n = elim (or_cases (m == n) (is_in ns n) e) [
    | inr r ↦ has_back (way_if (step m) (at_number m)) (numbered at_number step ns) i (numbered_every ns n i r at_n)
    | inl s ↦
        has_front (way_if (step m) (at_number m)) (numbered at_number step ns) i
        (subst (λ (o : Option ℕ). has_way (way_if (step m) o) i ≡ true) (sym (ap at_number (eqb-true m n s) ∙ at_n)) (or_left (i == i) false (eq-eqb i i refl)))
  ]
