-- What a set of flags has after something was added.
use Rattle.std.proofs.Common.{◌≡◌, ℕ, zero, suc, ◌<◌, Bool, true, sym, ◌∙◌, ap, arith, List, [], ◌∷◌, length, Option, Some, None, inl, inr, refl}
use Rattle.std.proofs.lemmas.Bool.{or_cases, or_left, or_right, eqb-true, eq-eqb, false≢true}
use Rattle.es_why.specs.Flags.{is_set, is_this, Sets}

pub set_within : (f : List Bool) (i : ℕ) → is_set f i ≡ true → i < length f
set_within [] i e = absurd (false≢true e)
set_within (b ∷ f) zero e = omega arith
set_within (b ∷ f) (suc i) e = let l : i < length f = set_within f i e in omega (arith, l)

pub this_one : (o : Option ℕ) (i : ℕ) → is_this o i ≡ true → o ≡ Some i
this_one None i e = absurd (false≢true e)
this_one (Some j) i e = ap Some (eqb-true j i e)

pub is_that : (o : Option ℕ) (i : ℕ) → o ≡ Some i → is_this o i ≡ true
is_that o i e = ap (λ p. is_this p i) e ∙ eq-eqb i i refl

module _ (test : ℕ → Bool) (f g : List Bool) (sets : Sets test f g) where
  pub set_before : (i : ℕ) → is_set f i ≡ true → is_set g i ≡ true
  set_before i e = sets.set i (set_within f i e) ∙ or_right (test i) (is_set f i) e

  pub set_added : (i : ℕ) → i < length f → test i ≡ true → is_set g i ≡ true
  set_added i l e = sets.set i l ∙ or_left (test i) (is_set f i) e

  pub set_either : (P : Type 0) (i : ℕ) → (test i ≡ true → P) → (is_set f i ≡ true → P) → is_set g i ≡ true → P
  set_either P i new old e =
      let w : i < length g = set_within g i e in
      let p : length g ≡ length f = sets.places in
      let l : i < length f = omega (arith, w, p) in
      elim (or_cases (test i) (is_set f i) (sym (sets.set i l) ∙ e)) [ inl a ↦ new a | inr b ↦ old b ]
