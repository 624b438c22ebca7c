-- Ways that are added to a list: what the list has then, and that each still comes after those that it comes from.
use Rattle.std.proofs.Common.{◌≡◌, ℕ, ◌≤◌, ◌==◌, ◌||◌, Bool, true, false, sym, ◌∙◌, ap, subst, arith, List, [], ◌∷◌, ◌++◌, length, take, drop, inl, inr, refl}
use Rattle.std.specs.List.{AllByRecursion}
use Rattle.std.proofs.lemmas.Bool.{cases_Bool, or_cases, or_left, or_right, eq-eqb, eqb-true}
use Rattle.std.proofs.lemmas.List.{append-nil, append_assoc, take-append-le, take-append-drop, length-append}
use Rattle.es_mark.specs.declared.step.Step.{Step}
use Rattle.es_mark.specs.declared.way.Way.{Way}
use Rattle.es_mark.specs.Ways.{sources, has_way, IsWay, AreOrdered, IsClosed}
use Rattle.es_mark.specs.Added.{with_way, with_ways, AreAdded}
use Rattle.es_mark.specs.Search.{IsLed}
use Rattle.es_mark.proofs.Lists.{all_mono}

-- What a list has

pub has_append : (xs ys : List Way) (i : ℕ) → has_way (xs ++ ys) i ≡ (has_way xs i || has_way ys i)
has_append [] ys i = refl
has_append (x ∷ xs) ys i = elim (cases_Bool (x.value == i)) [
  | inl s ↦ rw s refl
  | inr s ↦ rw s (has_append xs ys i)
]

pub has_front : (xs ys : List Way) (i : ℕ) → has_way xs i ≡ true → has_way (xs ++ ys) i ≡ true
has_front xs ys i e = has_append xs ys i ∙ or_left (has_way xs i) (has_way ys i) e

pub has_back : (xs ys : List Way) (i : ℕ) → has_way ys i ≡ true → has_way (xs ++ ys) i ≡ true
has_back xs ys i e = has_append xs ys i ∙ or_right (has_way xs i) (has_way ys i) e

-- what the first ways have the list has
pub has_take : (d : ℕ) (ws : List Way) (i : ℕ) → has_way (take d ws) i ≡ true → has_way ws i ≡ true
has_take d ws i e = subst (λ (l : List Way). has_way l i ≡ true) (take-append-drop d ws) (has_front (take d ws) (drop d ws) i e)

-- a way is to its value
pub has_own : (w : Way) (ws : List Way) → has_way (w ∷ ws) w.value ≡ true
has_own w ws = or_left (w.value == w.value) (has_way ws w.value) (eq-eqb w.value w.value refl)

-- What stays

pub kept_one : (ws : List Way) (w : Way) (i : ℕ) → has_way ws i ≡ true → has_way (with_way ws w) i ≡ true
kept_one ws w i e = elim (cases_Bool (has_way ws w.value)) [
  | inl s ↦ rw s e
  | inr s ↦ rw s (has_front ws (w ∷ []) i e)
]

pub kept_all : (ws more : List Way) (i : ℕ) → has_way ws i ≡ true → has_way (with_ways ws more) i ≡ true
kept_all ws [] i e = e
kept_all ws (w ∷ more) i e = kept_all (with_way ws w) more i (kept_one ws w i e)

-- What comes

has_one : (ws : List Way) (w : Way) → has_way (with_way ws w) w.value ≡ true
has_one ws w = elim (cases_Bool (has_way ws w.value)) [
  | inl s ↦ rw s s
  | inr s ↦ rw s (has_back ws (w ∷ []) w.value (has_own w []))
]

pub has_all : (ws more : List Way) (i : ℕ) → has_way more i ≡ true → has_way (with_ways ws more) i ≡ true
has_all ws [] i e = cc
has_all ws (w ∷ more) i e = elim (cases_Bool (w.value == i)) [
  | inl s ↦ kept_all (with_way ws w) more i (subst (λ (j : ℕ). has_way (with_way ws w) j ≡ true) (eqb-true w.value i s) (has_one ws w))
  | inr s ↦ has_all (with_way ws w) more i (rw s at e)
]

-- The first ways stay the first

length_one : (ws : List Way) (w : Way) → length ws ≤ length (with_way ws w)
length_one ws w = elim (cases_Bool (has_way ws w.value)) [
  | inl s ↦ rw s (omega arith)
  | inr s ↦ rw s (omega (arith, length-append ws (w ∷ [])))
]

pub length_all : (ws more : List Way) → length ws ≤ length (with_ways ws more)
length_all ws [] = omega arith
length_all ws (w ∷ more) = omega (arith, length_one ws w, length_all (with_way ws w) more)

front_one : (d : ℕ) (ws : List Way) (w : Way) → d ≤ length ws → take d (with_way ws w) ≡ take d ws
front_one d ws w l = elim (cases_Bool (has_way ws w.value)) [
  | inl s ↦ rw s refl
  | inr s ↦ rw s (take-append-le d ws (w ∷ []) l)
]

pub front_all : (d : ℕ) (ws more : List Way) → d ≤ length ws → take d (with_ways ws more) ≡ take d ws
front_all d ws [] l = refl
front_all d ws (w ∷ more) l =
    let m : d ≤ length (with_way ws w) = omega (arith, length_one ws w) in
    front_all d (with_way ws w) more m ∙ front_one d ws w l

-- One list after another

pub with_append : (ws xs ys : List Way) → with_ways ws (xs ++ ys) ≡ with_ways (with_ways ws xs) ys
with_append ws [] ys = refl
with_append ws (x ∷ xs) ys = with_append (with_way ws x) xs ys

pub added_more : (xs ys a b c : List Way) → AreAdded xs a b → AreAdded ys b c → AreAdded (xs ++ ys) a c
added_more xs ys a b c p q = record { added = q.added ∙ ap (λ (l : List Way). with_ways l ys) p.added ∙ sym (with_append a xs ys) }

pub added_nothing : (ws : List Way) → AreAdded [] ws ws
added_nothing ws = record { added = refl }

-- it has a way already
pub added_none : (ws : List Way) (w : Way) → has_way ws w.value ≡ true → AreAdded (w ∷ []) ws ws
added_none ws w s = record { added = rw s refl }

pub added_one : (ws : List Way) (w : Way) → has_way ws w.value ≡ false → AreAdded (w ∷ []) ws (ws ++ w ∷ [])
added_one ws w s = record { added = rw s refl }

module _ {more old new : List Way} (a : AreAdded more old new) where
  pub added_keeps : (i : ℕ) → has_way old i ≡ true → has_way new i ≡ true
  added_keeps i e = subst (λ (l : List Way). has_way l i ≡ true) (sym a.added) (kept_all old more i e)

  pub added_has : (i : ℕ) → has_way more i ≡ true → has_way new i ≡ true
  added_has i e = subst (λ (l : List Way). has_way l i ≡ true) (sym a.added) (has_all old more i e)

  pub added_front : (d : ℕ) → d ≤ length old → take d new ≡ take d old
  added_front d l = ap (take d) a.added ∙ front_all d old more l

  pub added_length : length old ≤ length new
  added_length = subst (λ (l : List Way). length old ≤ length l) (sym a.added) (length_all old more)

-- The order

module _ (leads : Step → ℕ → Type 0) where
  ordered_more : (before ws : List Way) (w : Way) → AreOrdered leads before ws → IsWay leads (before ++ ws) w → AreOrdered leads before (ws ++ w ∷ [])
  ordered_more before [] w all is = (subst (λ (l : List Way). IsWay leads l w) (append-nil before) is, tt)
  ordered_more before (x ∷ xs) w all is =
      (all.0, ordered_more (before ++ x ∷ []) xs w all.1 (subst (λ (l : List Way). IsWay leads l w) (sym (append_assoc before (x ∷ []) xs)) is))

  ordered_one : (ws : List Way) (w : Way) → AreOrdered leads [] ws → IsLed leads ws w → AreOrdered leads [] (with_way ws w)
  ordered_one ws w all is = elim (cases_Bool (has_way ws w.value)) [
    | inl s ↦ rw s all
    | inr s ↦ rw s (ordered_more [] ws w all (record { led = is.0; comes = is.1; first = s }))
  ]

  -- what is led to from ways is led to from more of them
  pub led_mono : (old new : List Way) → ((i : ℕ) → has_way old i ≡ true → has_way new i ≡ true) → (ws : List Way) → AllByRecursion (IsLed leads old) ws → AllByRecursion (IsLed leads new) ws
  led_mono old new keeps ws all =
      all_mono (IsLed leads old) (IsLed leads new) ws (λ w is. (is.0, all_mono (λ j. has_way old j ≡ true) (λ j. has_way new j ≡ true) (sources w.step) keeps is.1)) all

  ordered_all : (ws more : List Way) → AreOrdered leads [] ws → AllByRecursion (IsLed leads ws) more → AreOrdered leads [] (with_ways ws more)
  ordered_all ws [] all each = all
  ordered_all ws (w ∷ more) all each =
      ordered_all (with_way ws w) more (ordered_one ws w all each.0) (led_mono ws (with_way ws w) (kept_one ws w) more each.1)

  pub added_ordered : (more old new : List Way) → AreAdded more old new → AreOrdered leads [] old → AllByRecursion (IsLed leads old) more → AreOrdered leads [] new
  added_ordered more old new a all each = subst (λ (l : List Way). AreOrdered leads [] l) (sym a.added) (ordered_all old more all each)

  -- a closed set that has what comes before has the values of all
  pub ordered_within : (t : ℕ → Bool) → IsClosed leads t → (before ws : List Way) → ((j : ℕ) → has_way before j ≡ true → t j ≡ true) → AreOrdered leads before ws
      → (i : ℕ) → has_way ws i ≡ true → t i ≡ true
  ordered_within t closed before [] had all i e = cc
  ordered_within t closed before (w ∷ ws) had all i e =
      let here : t w.value ≡ true = closed w.step w.value all.0.led (all_mono (λ j. has_way before j ≡ true) (λ j. t j ≡ true) (sources w.step) had all.0.comes) in
      let has : (j : ℕ) → has_way (before ++ w ∷ []) j ≡ true → t j ≡ true =
      λ j h.
      elim (or_cases (has_way before j) (has_way (w ∷ []) j) (sym (has_append before (w ∷ []) j) ∙ h)) [
        | inl p ↦ had j p
        | inr p ↦ elim (or_cases (w.value == j) false p) [ inl q ↦ subst (λ (k : ℕ). t k ≡ true) (eqb-true w.value j q) here | inr q ↦ cc ]
      ] in
      elim (cases_Bool (w.value == i)) [
        | inl s ↦ subst (λ (k : ℕ). t k ≡ true) (eqb-true w.value i s) here
        | inr s ↦ ordered_within t closed (before ++ w ∷ []) ws has all.1 i (rw s at e)
      ]
