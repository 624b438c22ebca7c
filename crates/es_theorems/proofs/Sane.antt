-- Nobody comes to know of an access that was not made, and each message has what its sender knew.
use Rattle.std.proofs.Common.{◌≡◌, ℕ, ◌+◌, ◌<◌, ◌==◌, true, false, sym, ◌∙◌, ap, refl, subst, arith, List, [], ◌∷◌, ◌++◌, length, map, Option, Some, None, length-append, inl, inr}
use Rattle.std.specs.Prelude.{slice_get}
use Rattle.std.specs.List.{list_any}
use Rattle.std.proofs.lemmas.Bool.{and_parts, cases_Bool, eqb-false, eqb-true}
use Rattle.std.proofs.lemmas.List.{length-map}
use Rattle.es_laws.specs.Races.{Mark, is_mark}
use Rattle.es_theorems.specs.Alone.{Goes, IsSane, Letter, Local, Lore, Touch, World, addressed, after_event, is_known, learned, own_mark, posted_by, times, touched_by, touched_now}
use Rattle.es_theorems.proofs.Beyond.{addressed_more, mine, others, touch_of}
use Rattle.es_theorems.proofs.Touching.{any_first, any_mapped, any_parts, either, lore_mine, lore_of_step, lore_other, touched_grow}

pub sane_after : (n : ℕ) (w : World) (i : ℕ) (t : World) → IsSane w → Goes n w i t → IsSane t
sane_after n w i t sane x = record { knows = knows; told = told; parallel = parallel }
  where
    old : Lore
    old = w.lore i

    new : Lore
    new = lore_of_step n w i t x

    letters_to : ℕ → List Letter
    letters_to r = addressed r (posted_by x.before.over x.event)

    more : (y : Mark) → y.1 < length (w.lore y.0).touched → y.1 < length (t.lore y.0).touched
    more y less = let grow = touched_grow n w i t x y.0 in omega (arith, less, grow)

    -- its own access
    own : (y : Mark) (q : Option Touch) → touch_of n w i t x ≡ q → is_known y (own_mark i old.touched q) ≡ true → y.1 < length (t.lore y.0).touched
    own y None is e = cc
    own y (Some u) is e = elim (either (is_mark y (i, length old.touched)) false e) [
      | inr off ↦ cc
      | inl here ↦ (
          let both = and_parts (y.0 == i) (y.1 == length old.touched) here in
          let place = eqb-true y.1 (length old.touched) both.1 in
          let who : length (t.lore y.0).touched ≡ length (t.lore i).touched = ap (λ k. length (t.lore k).touched) (eqb-true y.0 i both.0) in
          let size : length (t.lore i).touched ≡ length old.touched + 1 =
          ap (λ (o : Lore). length o.touched) (lore_mine n w i t x) ∙ ap (λ q. length (old.touched ++ touched_now old.knows w.words q)) is ∙ length-append old.touched (touched_by old.knows w.words u ∷ []) in
          omega (arith, place, size, who))
    ]

    learned_made : (y : Mark) (got : List ℕ) → is_known y (learned w.lore i x.before got) ≡ true → y.1 < length (w.lore y.0).touched
    learned_made y [] e = cc
    learned_made y (s ∷ rest) e = sane.told s i y (any_first y (times s x.before.got) ((w.lore s).told i) e)

    knows_here : (y : Mark) → is_known y new.knows ≡ true → y.1 < length (t.lore y.0).touched
    knows_here y e = elim (any_parts (is_mark y) (learned w.lore i x.before x.got) (own_mark i old.touched (touch_of n w i t x) ++ old.knows) e) [
      | inl a ↦ more y (learned_made y x.got a)
      | inr b ↦ elim (any_parts (is_mark y) (own_mark i old.touched (touch_of n w i t x)) old.knows b) [
        | inl c ↦ own y (touch_of n w i t x) refl c
        | inr d ↦ more y (sane.knows i y d)
      ]
    ]

    knows : (j : ℕ) (y : Mark) → is_known y (t.lore j).knows ≡ true → y.1 < length (t.lore y.0).touched
    knows j y e = elim (cases_Bool (i == j)) [
      | inl here ↦ knows_here y (subst (λ (o : Lore). is_known y o.knows ≡ true) (ap t.lore (sym (eqb-true i j here)) ∙ lore_mine n w i t x) e)
      | inr off ↦ more y (sane.knows j y (subst (λ (o : Lore). is_known y o.knows ≡ true) (lore_other n w i t x j (eqb-false i j off)) e))
    ]

    told_here : (r : ℕ) (y : Mark) → list_any (is_known y) (new.told r) ≡ true → y.1 < length (t.lore y.0).touched
    told_here r y e = elim (any_parts (is_known y) (old.told r) (map (λ m. old.knows) (letters_to r)) e) [
      | inl a ↦ more y (sane.told i r y a)
      | inr b ↦ more y (sane.knows i y (any_mapped y old.knows (letters_to r) b))
    ]

    told : (j r : ℕ) (y : Mark) → list_any (is_known y) ((t.lore j).told r) ≡ true → y.1 < length (t.lore y.0).touched
    told j r y e = elim (cases_Bool (i == j)) [
      | inl here ↦ told_here r y (subst (λ (o : Lore). list_any (is_known y) (o.told r) ≡ true) (ap t.lore (sym (eqb-true i j here)) ∙ lore_mine n w i t x) e)
      | inr off ↦ more y (sane.told j r y (subst (λ (o : Lore). list_any (is_known y) (o.told r) ≡ true) (lore_other n w i t x j (eqb-false i j off)) e))
    ]

    parallel_here : (r : ℕ) → length (new.told r) ≡ length (addressed r (x.before.sent ++ posted_by x.before.over x.event))
    parallel_here r =
        let before : length (old.told r) ≡ length (addressed r x.before.sent) = sane.parallel i r x.before x.at in
        let left = length-append (old.told r) (map (λ (m : Letter). old.knows) (letters_to r)) in
        let now = length-map (letters_to r) (λ (m : Letter). old.knows) in
        let right : length (addressed r (x.before.sent ++ posted_by x.before.over x.event)) ≡ length (addressed r x.before.sent) + length (letters_to r) =
        ap length (addressed_more r x.before.sent (posted_by x.before.over x.event)) ∙ length-append (addressed r x.before.sent) (letters_to r) in
        omega (arith, before, left, now, right)

    parallel : (j r : ℕ) (a : Local) → slice_get t.locals j ≡ Some a → length ((t.lore j).told r) ≡ length (addressed r a.sent)
    parallel j r a at = elim (cases_Bool (i == j)) [
      | inl here ↦ (
          let same = eqb-true i j here in
          let is : after_event x.before x.event x.row x.got ≡ a = (let two = sym (mine n w i t x) ∙ (ap (slice_get t.locals) same ∙ at) in cc) in
          ap (λ (o : Lore). length (o.told r)) (ap t.lore (sym same) ∙ lore_mine n w i t x) ∙ parallel_here r ∙ ap (λ (a : Local). length (addressed r a.sent)) is)
      | inr off ↦ (
          let other = eqb-false i j off in
          ap (λ (o : Lore). length (o.told r)) (lore_other n w i t x j other) ∙ sane.parallel j r a (sym (others n w i t x j other) ∙ at))
    ]
