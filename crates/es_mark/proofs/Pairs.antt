-- Pairs among lists of entries: of two lists, of those that are ready, delayed and released.
use Rattle.std.proofs.Common.{◌≡◌, ℕ, ◌==◌, ◌&&◌, ◌||◌, not, true, false, sym, ◌∙◌, ap, subst, List, [], ◌∷◌, ◌++◌, inl, inr, refl}
use Rattle.std.specs.List.{AllByRecursion}
use Rattle.std.proofs.lemmas.Bool.{cases_Bool, and_parts, and_from, or_left, or_right, eq-eqb, eqb-true}
use Rattle.es_mark.specs.declared.step.Step.{Step}
use Rattle.es_mark.specs.declared.step.Step.TheVariants.{Entry}
use Rattle.es_mark.specs.declared.way.Way.{Way}
use Rattle.es_mark.specs.Ways.{has_way}
use Rattle.es_mark.specs.Finds.{has_pair}
use Rattle.es_mark.specs.Added.{AreAdded}
use Rattle.es_mark.specs.Search.{ready, delayed, released, way_to, IsLed, IsWaiting}
use Rattle.es_mark.proofs.Adding.{added_more}

-- Two lists

pair_append : (xs ys : List (ℕ × ℕ)) (m i : ℕ) → has_pair (xs ++ ys) m i ≡ (has_pair xs m i || has_pair ys m i)
pair_append [] ys m i = refl
pair_append (x ∷ xs) ys m i = elim (cases_Bool ((x.0 == m) && (x.1 == i))) [
  | inl s ↦ rw s refl
  | inr s ↦ rw s (pair_append xs ys m i)
]

pub pair_front : (xs ys : List (ℕ × ℕ)) (m i : ℕ) → has_pair xs m i ≡ true → has_pair (xs ++ ys) m i ≡ true
pair_front xs ys m i e = pair_append xs ys m i ∙ or_left (has_pair xs m i) (has_pair ys m i) e

pub pair_back : (xs ys : List (ℕ × ℕ)) (m i : ℕ) → has_pair ys m i ≡ true → has_pair (xs ++ ys) m i ≡ true
pair_back xs ys m i e = pair_append xs ys m i ∙ or_right (has_pair xs m i) (has_pair ys m i) e

pub ready_append : (front : List Way) (k : ℕ) (xs ys : List (ℕ × ℕ)) → ready front k (xs ++ ys) ≡ ready front k xs ++ ready front k ys
ready_append front k [] ys = refl
ready_append front k (x ∷ xs) ys = elim (cases_Bool (has_way front x.0)) [
  | inl s ↦ rw s (ap (λ (l : List Way). way_to x.1 (Entry x.0 k) ∷ l) (ready_append front k xs ys))
  | inr s ↦ rw s (ready_append front k xs ys)
]

pub delayed_append : (front : List Way) (k : ℕ) (xs ys : List (ℕ × ℕ)) (m : ℕ) → delayed front k (xs ++ ys) m ≡ delayed front k xs m ++ delayed front k ys m
delayed_append front k [] ys m = refl
delayed_append front k (x ∷ xs) ys m = elim (cases_Bool (not (has_way front x.0) && (x.0 == m))) [
  | inl s ↦ rw s (ap (λ (l : List (ℕ × ℕ)). (k, x.1) ∷ l) (delayed_append front k xs ys m))
  | inr s ↦ rw s (delayed_append front k xs ys m)
]

released_append : (m : ℕ) (xs ys : List (ℕ × ℕ)) → released m (xs ++ ys) ≡ released m xs ++ released m ys
released_append m [] ys = refl
released_append m (x ∷ xs) ys = ap (λ (l : List Way). way_to x.1 (Entry m x.0) ∷ l) (released_append m xs ys)

-- one entry more is released
pub released_more : (m : ℕ) (es : List (ℕ × ℕ)) (e : ℕ × ℕ) (a b c : List Way) → AreAdded (released m es) a b → AreAdded (way_to e.1 (Entry m e.0) ∷ []) b c → AreAdded (released m (es ++ e ∷ [])) a c
released_more m es e a b c p q = subst (λ (l : List Way). AreAdded l a c) (sym (released_append m es (e ∷ []))) (added_more (released m es) (way_to e.1 (Entry m e.0) ∷ []) a b c p q)

-- What is there

pub has_ready : (front : List Way) (k : ℕ) (es : List (ℕ × ℕ)) (m i : ℕ) → has_pair es m i ≡ true → has_way front m ≡ true → has_way (ready front k es) i ≡ true
has_ready front k [] m i e f = cc
has_ready front k (x ∷ xs) m i e f = elim (cases_Bool ((x.0 == m) && (x.1 == i))) [
  | inl s ↦
      let both = and_parts (x.0 == m) (x.1 == i) s in
      let here : has_way front x.0 ≡ true = subst (λ (j : ℕ). has_way front j ≡ true) (sym (eqb-true x.0 m both.0)) f in
      rw here (or_left (x.1 == i) (has_way (ready front k xs) i) both.1)
  | inr s ↦
      let rest : has_way (ready front k xs) i ≡ true = has_ready front k xs m i (rw s at e) f in
      elim (cases_Bool (has_way front x.0)) [
        | inl t ↦ rw t (or_right (x.1 == i) (has_way (ready front k xs) i) rest)
        | inr t ↦ rw t rest
      ]
]

pub has_delayed : (front : List Way) (k : ℕ) (es : List (ℕ × ℕ)) (m i : ℕ) → has_pair es m i ≡ true → has_way front m ≡ false → has_pair (delayed front k es m) k i ≡ true
has_delayed front k [] m i e f = cc
has_delayed front k (x ∷ xs) m i e f = elim (cases_Bool ((x.0 == m) && (x.1 == i))) [
  | inl s ↦
      let both = and_parts (x.0 == m) (x.1 == i) s in
      let gone : has_way front x.0 ≡ false = subst (λ (j : ℕ). has_way front j ≡ false) (sym (eqb-true x.0 m both.0)) f in
      let test : (not (has_way front x.0) && (x.0 == m)) ≡ true = and_from (not (has_way front x.0)) (x.0 == m) (ap not gone) both.0 in
      rw test (or_left ((k == k) && (x.1 == i)) (has_pair (delayed front k xs m) k i) (and_from (k == k) (x.1 == i) (eq-eqb k k refl) both.1))
  | inr s ↦
      let rest : has_pair (delayed front k xs m) k i ≡ true = has_delayed front k xs m i (rw s at e) f in
      elim (cases_Bool (not (has_way front x.0) && (x.0 == m))) [
        | inl t ↦ rw t (or_right ((k == k) && (x.1 == i)) (has_pair (delayed front k xs m) k i) rest)
        | inr t ↦ rw t rest
      ]
]

pub has_released : (m : ℕ) (es : List (ℕ × ℕ)) (k i : ℕ) → has_pair es k i ≡ true → has_way (released m es) i ≡ true
has_released m [] k i e = cc
has_released m (x ∷ xs) k i e = elim (cases_Bool ((x.0 == k) && (x.1 == i))) [
  | inl s ↦ or_left (x.1 == i) (has_way (released m xs) i) (and_parts (x.0 == k) (x.1 == i) s).1
  | inr s ↦ or_right (x.1 == i) (has_way (released m xs) i) (has_released m xs k i (rw s at e))
]

-- What leads there

module _ (leads : Step → ℕ → Type 0) (ws : List Way) where
  pub led_ready : (front : List Way) (k : ℕ) (es : List (ℕ × ℕ)) → ((j : ℕ) → has_way front j ≡ true → has_way ws j ≡ true) → has_way ws k ≡ true
      → AllByRecursion (λ (e : ℕ × ℕ). leads (Entry e.0 k) e.1) es → AllByRecursion (IsLed leads ws) (ready front k es)
  led_ready front k [] within here all = tt
  led_ready front k (x ∷ xs) within here all =
      let rest : AllByRecursion (IsLed leads ws) (ready front k xs) = led_ready front k xs within here all.1 in
      elim (cases_Bool (has_way front x.0)) [
        | inl s ↦ rw s ((all.0, (within x.0 s, (here, tt))), rest)
        | inr s ↦ rw s rest
      ]

  pub waits_delayed : (front : List Way) (k : ℕ) (es : List (ℕ × ℕ)) (m : ℕ) → has_way ws k ≡ true
      → AllByRecursion (λ (e : ℕ × ℕ). leads (Entry e.0 k) e.1) es → AllByRecursion (IsWaiting leads ws m) (delayed front k es m)
  waits_delayed front k [] m here all = tt
  waits_delayed front k (x ∷ xs) m here all =
      let rest : AllByRecursion (IsWaiting leads ws m) (delayed front k xs m) = waits_delayed front k xs m here all.1 in
      elim (cases_Bool (not (has_way front x.0) && (x.0 == m))) [
        | inl s ↦
            let same : x.0 ≡ m = eqb-true x.0 m (and_parts (not (has_way front x.0)) (x.0 == m) s).1 in
            rw s ((subst (λ (j : ℕ). leads (Entry j k) x.1) same all.0, here), rest)
        | inr s ↦ rw s rest
      ]

  pub led_released : (m : ℕ) (es : List (ℕ × ℕ)) → has_way ws m ≡ true → AllByRecursion (IsWaiting leads ws m) es → AllByRecursion (IsLed leads ws) (released m es)
  led_released m [] here all = tt
  led_released m (x ∷ xs) here all = ((all.0.0, (here, (all.0.1, tt))), led_released m xs here all.1)
