-- Steps of marking, one alone and one after another.
use Rattle.std.proofs.Common.{◌≡◌, ℕ, ◌==◌, Bool, true, false, sym, ◌∙◌, ap, List, [], ◌∷◌, ◌++◌, inl, inr, refl, Some}
use Rattle.std.specs.List.{AllByRecursion}
use Rattle.std.proofs.lemmas.Bool.{cases_Bool, eqb-true, eqb-false, eq-eqb, ne_eqb}
use Rattle.std.proofs.lemmas.List.{append-nil, append_assoc}
use Rattle.es_value.specs.declared.value.Value.{Value}
use Rattle.es_value.specs.Values.{identity}
use Rattle.es_mark.specs.Graph.{HasAll, HasValues}
use Rattle.es_mark.specs.Marks.{is_marked}
use Rattle.es_mark.specs.Listed.{IsListed, IsAdded}
use Rattle.es_mark.specs.Steps.{HasBoth, IsStep}
use Rattle.es_mark.specs.Waiting.{waiting_for, HasWaiting, WaitingView, Waits}
use Rattle.es_mark.proofs.Lists.{all_mono, all_both, all_join, all_front, all_back}

same_all : {X : Type 0} (P : X → Type 0) (xs : List X) → ((x : X) → P x) → AllByRecursion P xs
same_all P [] f = tt
same_all P (x ∷ xs) f = (f x, same_all P xs f)

-- nothing happens where nothing is asked for
pub step_none : (rule : (ℕ → Bool) → Type 0) (order : List ℕ) (waiting : WaitingView) → ((t : ℕ → Bool) → rule t) → IsStep rule order waiting order waiting
step_none rule order waiting always = record {
  rest = [];
  added = sym (append-nil order);
  only = λ t r both. both;
  all = λ t both. (both, always t);
  frozen = same_all _ order (λ m. refl);
}

-- what is added to the list
pub step_added : (rule : (ℕ → Bool) → Type 0) (ids old new : List ℕ) (waiting : WaitingView) → IsAdded ids old new
    → ((t : ℕ → Bool) → HasBoth old waiting t → rule t → HasAll ids t) → ((t : ℕ → Bool) → HasAll ids t → rule t) → IsStep rule old waiting new waiting
step_added rule ids old new waiting a to from = record {
  rest = a.rest;
  added = a.added;
  only = λ t r both. (rw a.added (all_join _ old a.rest both.0 (a.only t (to t both r))), both.1);
  all = λ t both. ((all_front _ old a.rest (rw a.added at both.0), both.1), from t (a.all t both.0));
  frozen = same_all _ old (λ m. refl);
}

-- a rule in place of another that asks for the same
pub step_as : (P Q : (ℕ → Bool) → Type 0) (a : List ℕ) (v : WaitingView) (b : List ℕ) (w : WaitingView) → IsStep P a v b w
    → ((t : ℕ → Bool) → Q t → P t) → ((t : ℕ → Bool) → P t → Q t) → IsStep Q a v b w
step_as P Q a v b w p to from = record {
  rest = p.rest;
  added = p.added;
  only = λ t r both. p.only t (to t r) both;
  all = λ t both. let before = p.all t both in (before.0, from t before.1);
  frozen = p.frozen;
}

-- one step after another
pub step_both : (P Q : (ℕ → Bool) → Type 0) (a : List ℕ) (u : WaitingView) (b : List ℕ) (v : WaitingView) (c : List ℕ) (w : WaitingView) → IsStep P a u b v → IsStep Q b v c w
    → IsStep (λ t. P t × Q t) a u c w
step_both P Q a u b v c w p q = record {
  rest = p.rest ++ q.rest;
  added = q.added ∙ ap (λ l. l ++ q.rest) p.added ∙ append_assoc a p.rest q.rest;
  only = λ t r both. q.only t r.1 (p.only t r.0 both);
  all = λ t both.
      let later : HasBoth b v t × Q t = q.all t both in
      let sooner : HasBoth a u t × P t = p.all t later.0 in
      (sooner.0, (sooner.1, later.1));
  frozen =
      all_both (λ m. waiting_for v m ≡ waiting_for u m) (λ m. waiting_for w m ≡ waiting_for v m) (λ m. waiting_for w m ≡ waiting_for u m) a
      (λ m e f. f ∙ e) p.frozen (all_front _ a p.rest (rw p.added at q.frozen));
}

-- a list after another
pub step_more : {X : Type 0} (P : (ℕ → Bool) → X → Type 0) (xs ys : List X) (a : List ℕ) (u : WaitingView) (b : List ℕ) (v : WaitingView) (c : List ℕ) (w : WaitingView)
    → IsStep (λ t. AllByRecursion (P t) xs) a u b v → IsStep (λ t. AllByRecursion (P t) ys) b v c w → IsStep (λ t. AllByRecursion (P t) (xs ++ ys)) a u c w
step_more P xs ys a u b v c w p q =
    step_as (λ t. AllByRecursion (P t) xs × AllByRecursion (P t) ys) (λ t. AllByRecursion (P t) (xs ++ ys)) a u c w
    (step_both (λ t. AllByRecursion (P t) xs) (λ t. AllByRecursion (P t) ys) a u b v c w p q)
    (λ t all. (all_front (P t) xs ys all, all_back (P t) xs ys all))
    (λ t both. all_join (P t) xs ys both.0 both.1)

-- the value of an entry

same_identity : (v : Value) (i j : ℕ) → identity v ≡ Some i → identity v ≡ Some j → j ≡ i
same_identity v i j e f = let g : Some i ≡ Some j = sym e ∙ f in cc

-- the map is marked
pub step_entered : (e : ℕ × Value) (i : ℕ) (marks : List Bool) (old new : List ℕ) (waiting : WaitingView) → identity e.1 ≡ Some i → IsListed marks old → is_marked marks e.0 ≡ true
    → IsAdded (i ∷ []) old new → IsStep (HasValues (e ∷ [])) old waiting new waiting
step_entered e i marks old new waiting value listed map added =
    step_added (HasValues (e ∷ [])) (i ∷ []) old new waiting added
    (λ t both rule. (rule.0 (listed.only t both.0 e.0 map) i value, tt))
    (λ t all. (λ _ j f. ap t (same_identity e.1 i j value f) ∙ all.0, tt))

-- the value is marked already
pub step_known : (e : ℕ × Value) (i : ℕ) (marks : List Bool) (order : List ℕ) (waiting : WaitingView) → identity e.1 ≡ Some i → IsListed marks order → is_marked marks i ≡ true
    → IsStep (HasValues (e ∷ [])) order waiting order waiting
step_known e i marks order waiting value listed here = record {
  rest = [];
  added = sym (append-nil order);
  only = λ t r both. both;
  all = λ t both. (both, (λ _ j f. ap t (same_identity e.1 i j value f) ∙ listed.only t both.0 i here, tt));
  frozen = same_all _ order (λ m. refl);
}

-- neither is marked

module _ (waited waiting : WaitingView) (m v : ℕ) (w : Waits waited m v waiting) where
  wait_at : waiting_for waiting m ≡ waiting_for waited m ++ v ∷ []
  wait_at = rw (w m, eq-eqb m m refl) refl

  wait_else : (k : ℕ) → (k ≡ m → ⊥) → waiting_for waiting k ≡ waiting_for waited k
  wait_else k ne = rw (w k, ne_eqb m k (λ e. ne (sym e))) refl

  waits_more : (t : ℕ → Bool) → (t m ≡ true → t v ≡ true) → HasWaiting waited t → HasWaiting waiting t
  waits_more t rule has k e = elim (cases_Bool (k == m)) [
    | inr s ↦ rw (wait_else k (eqb-false k m s)) (has k e)
    | inl s ↦
        let same : k ≡ m = eqb-true k m s in
        let here : t m ≡ true = ap t (sym same) ∙ e in
        rw (same, wait_at) (all_join _ (waiting_for waited m) (v ∷ []) (has m here) (rule here, tt))
  ]

  waited_less : (t : ℕ → Bool) → HasWaiting waiting t → HasWaiting waited t
  waited_less t has k e = elim (cases_Bool (k == m)) [
    | inr s ↦ rw (wait_else k (eqb-false k m s)) at (has k e)
    | inl s ↦
        let same : k ≡ m = eqb-true k m s in
        let here : t m ≡ true = ap t (sym same) ∙ e in
        rw same (all_front _ (waiting_for waited m) (v ∷ []) (rw wait_at at (has m here)))
  ]

  waited_rule : (t : ℕ → Bool) → HasWaiting waiting t → t m ≡ true → t v ≡ true
  waited_rule t has here = (all_back _ (waiting_for waited m) (v ∷ []) (rw wait_at at (has m here))).0

pub step_waits : (e : ℕ × Value) (v : ℕ) (marks : List Bool) (order : List ℕ) (waited waiting : WaitingView) → identity e.1 ≡ Some v → IsListed marks order → is_marked marks e.0 ≡ false
    → Waits waited e.0 v waiting → IsStep (HasValues (e ∷ [])) order waited order waiting
step_waits e v marks order waited waiting value listed map w = record {
  rest = [];
  added = sym (append-nil order);
  only = λ t r both. (both.0, waits_more waited waiting e.0 v w t (λ here. r.0 here v value) both.1);
  all = λ t both. ((both.0, waited_less waited waiting e.0 v w t both.1), (λ here j f. ap t (same_identity e.1 v j value f) ∙ waited_rule waited waiting e.0 v w t both.1 here, tt));
  frozen =
      all_mono (λ m. is_marked marks m ≡ true) _ order
      (λ m here. wait_else waited waiting e.0 v w m (λ s. let f : is_marked marks m ≡ false = ap (is_marked marks) s ∙ map in cc)) listed.has_order;
}
