-- Numbers that pass a test, by rising number.
use Rattle.std.proofs.Common.{◌≡◌, ℕ, zero, suc, ◌+◌, Bool, sym, ◌∙◌, ap, arith, List, [], ◌∷◌, ◌++◌, inl, inr, if◌then◌else◌, filter}
use Rattle.std.specs.List.{range_with_len}
use Rattle.std.proofs.lemmas.Bool.{cases_Bool}

abbrev pub passing : (ℕ → Bool) → ℕ → ℕ → List ℕ
passing p a n = filter p (range_with_len a n)

passing_more : (p : ℕ → Bool) (a n : ℕ) → passing p a (suc n) ≡ passing p a n ++ (if p (a + n) then (a + n) ∷ [] else [])
passing_more p a zero = let same : a ≡ a + 0 = omega arith in ap (λ j. if p j then j ∷ [] else []) same
passing_more p a (suc n) =
    let rest : passing p (a + 1) (suc n) ≡ passing p (a + 1) n ++ (if p (a + 1 + n) then (a + 1 + n) ∷ [] else []) = passing_more p (a + 1) n in
    let same : a + 1 + n ≡ a + suc n = omega arith in
    elim (cases_Bool (p a)) [
      | inl t ↦ rw (t, ← same) (ap (λ is. a ∷ is) rest)
      | inr t ↦ rw (t, ← same) rest
    ]

-- one number more is tested
pub one_more : (p : ℕ → Bool) (n i : ℕ) (old new : List ℕ) (asked : Bool) → old ≡ passing p 1 n → i ≡ n + 1 → asked ≡ p i → new ≡ old ++ (if asked then i ∷ [] else []) → new ≡ passing p 1 (n + 1)
one_more p n i old new asked before at test added =
    let next : i ≡ 1 + n = omega (arith, at) in
    let count : suc n ≡ n + 1 = omega arith in
    added
    ∙ ap (λ is. is ++ (if asked then i ∷ [] else [])) before
    ∙ ap (λ b. passing p 1 n ++ (if b then i ∷ [] else [])) test
    ∙ ap (λ j. passing p 1 n ++ (if p j then j ∷ [] else [])) next
    ∙ sym (passing_more p 1 n)
    ∙ ap (passing p 1) count
