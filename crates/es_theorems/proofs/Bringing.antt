-- What is ready is brought before what other agents do.
use Rattle.std.proofs.Common.{◌≡◌, ℕ, suc, ◌==◌, ◌&&◌, not, true, false, cond, sym, ◌∙◌, ap, refl, List, [], ◌∷◌, ◌++◌, Some, inl, inr, ne_eqb, eqb-true}
use Rattle.std.proofs.lemmas.Bool.{cases_Bool}
use Rattle.es_event.specs.declared.ledger_event.LedgerEvent.{LedgerEvent}
use Rattle.es_event.specs.Ledger.{Ledger, waits}
use Rattle.es_match.specs.Patience.{may_do}
use Rattle.es_event.specs.LegalLedger.{LegalSoFar}
use Rattle.es_match.specs.Deeds.{Deed, deed, is_wait, part_of}
use Rattle.es_theorems.specs.Ahead.{Elsewhere, Rearranged, Steps, ahead, played}
use Rattle.es_theorems.specs.Ready.{Goes, Ready}
use Rattle.es_theorems.proofs.Beside.{ready_deed}
use Rattle.es_theorems.proofs.Liking.{like, like_played, like_through, same_ahead, same_steps}
use Rattle.es_theorems.proofs.Swapping.{Swap, goes_after, ready_after, swap}

pub rearranged_not : (k : ℕ) (es : List LedgerEvent) (l : Ledger) → Steps k es l → Rearranged k es es l
rearranged_not k es l steps = record { steps = steps; parts = λ a. refl; like = like (played es l); size = refl }

none_first : (xs ys r : List Deed) → xs ≡ [] → ys ++ (xs ++ r) ≡ xs ++ (ys ++ r)
none_first [] ys r is = refl
none_first (x ∷ xs) ys r is = cc

-- of two agents one at most is this one
one_of_two : (a b c : ℕ) (d g : Deed) (r : List Deed) → (a ≡ b → ⊥) → part_of c (Some (b, d)) ++ (part_of c (Some (a, g)) ++ r) ≡ part_of c (Some (a, g)) ++ (part_of c (Some (b, d)) ++ r)
one_of_two a b c d g r other = elim (cases_Bool (b == c)) [
  | inl e ↦ let none : (a == c) ≡ false = ne_eqb a c (λ same. other (same ∙ sym (eqb-true b c e))) in
      none_first (part_of c (Some (a, g))) (part_of c (Some (b, d))) r (ap (λ t. cond (t && not (is_wait g)) (g ∷ []) []) none)
  | inr e ↦ sym (none_first (part_of c (Some (b, d))) (part_of c (Some (a, g))) r (ap (λ t. cond (t && not (is_wait d)) (d ∷ []) []) e))
]

bring_one : (k : ℕ) (x : LedgerEvent) (xs ys : List LedgerEvent) (l : Ledger) (a : ℕ) (f : LedgerEvent) → LegalSoFar k l → Goes k l a → Ready k l a f → Elsewhere a (x ∷ xs) l → Steps k (x ∷ xs ++ f ∷ ys) l
    → Rearranged k (xs ++ f ∷ ys) (f ∷ xs ++ ys) (x ∷ l) → Rearranged k (x ∷ xs ++ f ∷ ys) (f ∷ x ∷ xs ++ ys) l
bring_one k x xs ys l a f legal goes ready away steps rest = record {
  steps = (one.first, (one.second, same_steps k (xs ++ ys) (f ∷ x ∷ l) (x ∷ f ∷ l) one.same rest.steps.1));
  parts = λ c.
      ap (λ ds. part_of c (deed l x) ++ ds) (rest.parts c)
      ∙ ap (λ ds. part_of c (deed l x) ++ (part_of c (deed (x ∷ l) f) ++ ds)) (same_ahead (xs ++ ys) (f ∷ x ∷ l) (x ∷ f ∷ l) c one.same)
      ∙ ap (λ o. part_of c o ++ (part_of c (deed (x ∷ l) f) ++ after c)) away.0.2
      ∙ ap (λ o. part_of c (Some (b, d)) ++ (part_of c o ++ after c)) (one.mine ∙ does.1)
      ∙ one_of_two a b c d does.0 (after c) away.0.3
      ∙ sym (ap (λ o. part_of c o ++ (part_of c (deed (f ∷ l) x) ++ after c)) does.1 ∙ ap (λ o. part_of c (Some (a, does.0)) ++ (part_of c o ++ after c)) (one.other ∙ away.0.2));
  like = like_through (played (x ∷ xs ++ f ∷ ys) l) (played (xs ++ ys) (f ∷ x ∷ l)) (played (xs ++ ys) (x ∷ f ∷ l)) rest.like (like_played (xs ++ ys) (f ∷ x ∷ l) (x ∷ f ∷ l) one.same);
  size = ap (λ n. suc n) rest.size;
}
  where
    b : ℕ
    b = away.0.0

    d : Deed
    d = away.0.1

    does : (g : Deed) × (deed l f ≡ Some (a, g)) × (may_do (waits l a) g ≡ true)
    does = ready_deed k l a f ready

    one : Swap k l f x
    one = swap k l f x a b d legal goes ready steps.0 away.0.2 away.0.3

    after : ℕ → List Deed
    after c = ahead (xs ++ ys) (x ∷ f ∷ l) c

pub bring : (k : ℕ) (xs ys : List LedgerEvent) (l : Ledger) (a : ℕ) (f : LedgerEvent) → LegalSoFar k l → Goes k l a → Ready k l a f → Elsewhere a xs l → Steps k (xs ++ f ∷ ys) l → Rearranged k (xs ++ f ∷ ys) (f ∷ xs ++ ys) l
bring k [] ys l a f legal goes ready away steps = rearranged_not k (f ∷ ys) l steps
bring k (x ∷ xs) ys l a f legal goes ready away steps =
    bring_one k x xs ys l a f legal goes ready away steps
    (bring k xs ys (x ∷ l) a f (steps.0.legal, legal) (goes_after k l a away.0.0 x away.0.1 away.0.2 away.0.3 goes) (ready_after k l a away.0.0 f x away.0.1 legal away.0.2 away.0.3 goes.lives.paid steps.0 ready) away.1 steps.1)
