-- What is listed under each key after the places of one key changed.
use Rattle.std.proofs.Common.{◌≡◌, ℕ, Bool, true, false, cond, ◌&&◌, nat_eq, List, [], Option, Some, refl, ap, ◌∙◌, arith, inl, inr, ◌⊎◌}
use Rattle.std.specs.Option.{option_map_or}
use Rattle.std.specs.Ordering.{nat_cmp}
use Rattle.std.specs.BTreeSet.{BTreeSet, contains}
use Rattle.std.proofs.lemmas.Bool.Decides.{nat_tests}
use Rattle.es_registry.specs.Places.{PlacesView}
use Rattle.es_registry.specs.Registries.{pair_eq}

same_number : (a r : ℕ) → nat_eq a r ≡ true → a ≡ r
same_number a r e = grind (arith, nat_tests)

same_pair : (c d : Bool) (a r b t : ℕ) → nat_eq a r ≡ c → nat_eq b t ≡ d → ((a ≡ r) × (b ≡ t) × ((nat_eq a r && nat_eq b t) ≡ true)) ⊎ ((nat_eq a r && nat_eq b t) ≡ false)
same_pair true true a r b t e f = inl (same_number a r e, same_number b t f, rw (e, f) refl)
same_pair true false a r b t e f = inr (rw (e, f) refl)
same_pair false d a r b t e f = inr (rw e refl)

abbrev pub ItemsByPair : Type 0
ItemsByPair = ℕ × ℕ → Option PlacesView

-- the list of the pair a and b changed to the items of v
pub listed_after : (old new : ItemsByPair) (a b : ℕ) (v : PlacesView) → ((q : ℕ × ℕ) → new q ≡ cond (pair_eq (a, b) q) (Some v) (old q)) → (f : ℕ → ℕ → List ℕ) → v.items ≡ f a b
    → (r t : ℕ) → option_map_or (λ w. w.items) (new (r, t)) [] ≡ cond (nat_eq a r && nat_eq b t) (f r t) (option_map_or (λ w. w.items) (old (r, t)) [])
listed_after old new a b v after f is r t =
    elim (same_pair (nat_eq a r) (nat_eq b t) a r b t refl refl) [
      | inl s ↦ rw s.2 (ap (λ o. option_map_or (λ w. w.items) o []) (rw s.2 at (after (r, t))) ∙ is ∙ ap (λ n. f n b) s.0 ∙ ap (f r) s.1)
      | inr n ↦ rw n (ap (λ o. option_map_or (λ w. w.items) o []) (rw n at (after (r, t))))
    ]

-- the same, where the items stay
pub listed_still : (old new : ItemsByPair) (a b : ℕ) (v : PlacesView) → ((q : ℕ × ℕ) → new q ≡ cond (pair_eq (a, b) q) (Some v) (old q)) → v.items ≡ option_map_or (λ w. w.items) (old (a, b)) []
    → (r t : ℕ) → option_map_or (λ w. w.items) (new (r, t)) [] ≡ option_map_or (λ w. w.items) (old (r, t)) []
listed_still old new a b v after is r t =
    listed_after old new a b v after (λ x y. option_map_or (λ w. w.items) (old (x, y)) []) is r t ∙ either (nat_eq a r && nat_eq b t) (option_map_or (λ w. w.items) (old (r, t)) [])
  where
    either : (c : Bool) (x : List ℕ) → cond c x x ≡ x
    either true x = refl
    either false x = refl

-- the set of a changed to v, which has the same places
pub waits_after : (old new : ℕ → Option (BTreeSet ℕ)) (a : ℕ) (v : BTreeSet ℕ) → ((q : ℕ) → new q ≡ cond (nat_eq a q) (Some v) (old q)) → ((j : ℕ) → contains nat_cmp v j ≡ option_map_or (λ s. contains nat_cmp s j) (old a) false)
    → (r j : ℕ) → option_map_or (λ s. contains nat_cmp s j) (new r) false ≡ option_map_or (λ s. contains nat_cmp s j) (old r) false
waits_after old new a v after is r j = by_test (nat_eq a r) refl
  where
    by_test : (c : Bool) → nat_eq a r ≡ c → option_map_or (λ s. contains nat_cmp s j) (new r) false ≡ option_map_or (λ s. contains nat_cmp s j) (old r) false
    by_test true e = ap (λ o. option_map_or (λ s. contains nat_cmp s j) o false) (rw e at (after r)) ∙ is j ∙ ap (λ n. option_map_or (λ s. contains nat_cmp s j) (old n) false) (same_number a r e)
    by_test false e = ap (λ o. option_map_or (λ s. contains nat_cmp s j) o false) (rw e at (after r))
