-- The deeds that are taken out of those that are left.
use Rattle.std.proofs.Common.{◌≡◌, ℕ, zero, suc, ◌≤◌, ◌+◌, List, [], ◌∷◌, ◌++◌, take, drop, refl, sym, ◌∙◌, ap, arith}
use Rattle.std.proofs.lemmas.List.{map-append, drop-drop}
use Rattle.std.proofs.Math.Seq.{take-add}
use Rattle.es_match.specs.declared.deed.Deed.{Deed}
use Rattle.es_match.specs.Deeds.{Deed as DeedSaid}
use Rattle.es_match.specs.DeedsShown.{shown, all_shown}

-- where nothing is left, more are as many
pub none_left : (k n : ℕ) (ds : List DeedSaid) → drop k ds ≡ [] → k ≤ n → (take k ds ≡ take n ds) × (drop n ds ≡ [])
none_left zero zero [] e h = (refl, refl)
none_left zero (suc n) [] e h = (refl, refl)
none_left zero n (d ∷ ds) e h = absurd (cc)
none_left (suc k) zero ds e h = absurd (omega arith)
none_left (suc k) (suc n) [] e h = (refl, refl)
none_left (suc k) (suc n) (d ∷ ds) e h = let rest = none_left k n ds e (omega arith) in (ap (λ xs. d ∷ xs) rest.0, rest.1)

-- one more is taken
pub one_taken : (k : ℕ) (ds rest more : List DeedSaid) (taken : List Deed) (d : Deed) → all_shown taken ≡ take k ds → rest ≡ drop k ds → rest ≡ shown d ∷ more
    → (all_shown (taken ++ d ∷ []) ≡ take (k + 1) ds) × (more ≡ drop (k + 1) ds)
one_taken k ds rest more taken d took left next =
    let here : drop k ds ≡ shown d ∷ more = sym left ∙ next in (
      map-append shown taken (d ∷ []) ∙ ap (λ xs. xs ++ shown d ∷ []) took ∙ ap (λ xs. take k ds ++ take 1 xs) (sym here) ∙ sym (take-add k 1 ds),
      ap (λ xs. drop 1 xs) (sym here) ∙ drop-drop 1 k ds,
    )
