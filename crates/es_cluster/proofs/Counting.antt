-- A list of agents, gone through one after the other.
use Rattle.std.proofs.Common.{◌≡◌, ℕ, zero, suc, ◌+◌, ◌<◌, ◌==◌, List, [], ◌∷◌, Bool, true, false, Some, length, refl, sym, ap, ◌∙◌, subst, arith}
use Rattle.std.specs.Prelude.{slice_get, slice_set, slice_index_or}
use Rattle.std.proofs.lemmas.Bool.{eqb-true, eqb-false}

-- what stands at a place is put there again
pub set_again : {X : Type 0} (xs : List X) (i : ℕ) (x d : X) → x ≡ slice_index_or xs i d → i < length xs → slice_set xs i x ≡ xs
set_again [] i x d is within = refl
set_again (y ∷ xs) zero x d is within = ap (λ z. z ∷ xs) is
set_again (y ∷ xs) (suc i) x d is within = ap (λ ys. y ∷ ys) (set_again xs i x d is (omega (arith, within)))

-- what holds of all before a place and at it holds of all before the next
pub one_more : {X : Type 0} (P : ℕ → X → Type 0) (xs : List X) (i : ℕ) (x : X) → slice_get xs i ≡ Some x → P i x → ((n : ℕ) (y : X) → n < i → slice_get xs n ≡ Some y → P n y)
    → (n : ℕ) (y : X) → n < i + 1 → slice_get xs n ≡ Some y → P n y
one_more P xs i x here holds before n y less is = step (n == i) refl
  where
    step : (b : Bool) → (n == i) ≡ b → P n y
    step true same =
        let at = eqb-true n i same in
        let one : Some x ≡ Some y = sym here ∙ ap (λ k. slice_get xs k) (sym at) ∙ is in
        let equal : x ≡ y = cc in
        subst (λ z. P n z) equal (subst (λ k. P k x) (sym at) holds)
    step false other = let apart = eqb-false n i other in before n y (omega (arith, less, apart)) is
