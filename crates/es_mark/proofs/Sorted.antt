-- The list of ways is sorted by how far its values are, and no way is longer than it must be.
use Rattle.std.proofs.Common.{◌≡◌, ℕ, ◌+◌, ◌==◌, ◌||◌, ◌⊎◌, true, false, sym, ◌∙◌, subst, zero, suc, List, [], ◌∷◌, ◌++◌, take, drop, inl, inr}
use Rattle.std.specs.List.{AllByRecursion}
use Rattle.std.proofs.lemmas.Bool.{cases_Bool, both_ways, or_cases, or_left, or_parts, eqb-true}
use Rattle.std.proofs.lemmas.List.{take-append-drop}
use Rattle.es_mark.specs.declared.step.Step.{Step}
use Rattle.es_mark.specs.declared.way.Way.{Way}
use Rattle.es_mark.specs.Ways.{sources, has_way, IsWithin}
use Rattle.es_mark.specs.Added.{with_ways, AreAdded}
use Rattle.es_mark.specs.WaitingEntries.{WaitingEntriesView}
use Rattle.es_mark.specs.Search.{IsLed, Searching, Stands, IsNoFarther, AreSorted, Sorting}
use Rattle.es_mark.proofs.Adding.{has_append, led_mono}
use Rattle.es_mark.proofs.Covering.{covered}
use Rattle.es_mark.proofs.Lists.{all_mono, all_join}

-- what holds of the value of each way holds of a value that has one
pub way_at : (P : ℕ → Type 0) (ws : List Way) (i : ℕ) → AllByRecursion (λ w. P w.value) ws → has_way ws i ≡ true → P i
way_at P [] i all e = cc
way_at P (w ∷ ws) i all e = elim (cases_Bool (w.value == i)) [
  | inl s ↦ subst P (eqb-true w.value i s) all.0
  | inr s ↦ way_at P ws i all.1 (rw s at e)
]

front_of : (P : Way → Type 0) (xs ys : List Way) → AllByRecursion P (xs ++ ys) → AllByRecursion P xs
front_of P [] ys all = tt
front_of P (x ∷ xs) ys all = (all.0, front_of P xs ys all.1)

back_of : (P : Way → Type 0) (xs ys : List Way) → AllByRecursion P (xs ++ ys) → AllByRecursion P ys
back_of P [] ys all = all
back_of P (x ∷ xs) ys all = back_of P xs ys all.1

last_of : (P : Way → Type 0) (xs : List Way) (w : Way) → AllByRecursion P (xs ++ w ∷ []) → P w
last_of P [] w all = all.0
last_of P (x ∷ xs) w all = last_of P xs w all.1

module _ (leads : Step → ℕ → Type 0) where
  -- one step more may lead there too
  within_more : (n i : ℕ) → IsWithin leads n i → IsWithin leads (suc n) i
  within_more zero i is = absurd is
  within_more (suc n) i is = (is.0, is.1, all_mono (IsWithin leads n) (IsWithin leads (suc n)) (sources is.0) (within_more n) is.2)

  -- Sorted lists

  sorted_front : (xs ys : List Way) → AreSorted leads (xs ++ ys) → AreSorted leads xs
  sorted_front [] ys all = tt
  sorted_front (x ∷ xs) ys all = (front_of (λ v. IsNoFarther leads x.value v.value) xs ys all.0, sorted_front xs ys all.1)

  sorted_apart : (xs ys : List Way) → AreSorted leads (xs ++ ys) → AllByRecursion (λ (x : Way). AllByRecursion (λ (y : Way). IsNoFarther leads x.value y.value) ys) xs
  sorted_apart [] ys all = tt
  sorted_apart (x ∷ xs) ys all = (back_of (λ v. IsNoFarther leads x.value v.value) xs ys all.0, sorted_apart xs ys all.1)

  sorted_push : (ws : List Way) (w : Way) → AreSorted leads ws → AllByRecursion (λ (v : Way). IsNoFarther leads v.value w.value) ws → AreSorted leads (ws ++ w ∷ [])
  sorted_push [] w sorted each = (tt, tt)
  sorted_push (x ∷ xs) w sorted each =
      (all_join (λ (v : Way). IsNoFarther leads x.value v.value) xs (w ∷ []) sorted.0 (each.0, tt), sorted_push xs w sorted.1 each.1)

  -- Ways are added that come from the first ones, to values that are farther than all that are there: what is near of the first ones is
  -- told by a predicate on numbers of steps

  module _ (front : List Way) (near : ℕ → Type 0) (close : (n j : ℕ) → near n → has_way front j ≡ true → IsWithin leads n j) where
    -- what comes from the first ways is one step farther at most
    next : (n : ℕ) → near n → (w : Way) → IsLed leads front w → IsWithin leads (suc n) w.value
    next n is w led = (w.step, led.0, all_mono (λ j. has_way front j ≡ true) (IsWithin leads n) (sources w.step) (λ j e. close n j is e) led.1)

    -- what comes from the first ways is no farther than what comes
    near_one : (v w : Way) → IsLed leads front v → ((n : ℕ) → IsWithin leads (suc n) w.value → near n) → IsNoFarther leads v.value w.value
    near_one v w led far zero within = absurd within
    near_one v w led far (suc n) within = next n (far n within) v led

    sorting_one : (ws : List Way) (w : Way) → ((n i : ℕ) → IsWithin leads (suc n) i → has_way ws i ≡ false → near n) → IsLed leads front w → has_way ws w.value ≡ false → Sorting leads front ws
        → Sorting leads front (ws ++ w ∷ [])
    sorting_one ws w far led new s =
        let least : (n : ℕ) → IsWithin leads (suc n) w.value → near n = λ n within. far n w.value within new in
        let own : (n : ℕ) → IsWithin leads (suc n) w.value → AllByRecursion (IsWithin leads n) (sources w.step) =
        λ n within. all_mono (λ j. has_way front j ≡ true) (IsWithin leads n) (sources w.step) (λ j e. close n j (least n within) e) led.1 in
        record {
          led = all_join (IsLed leads front) ws (w ∷ []) s.led (led, tt);
          sorted = sorted_push ws w s.sorted (all_mono (IsLed leads front) (λ (v : Way). IsNoFarther leads v.value w.value) ws (λ v is. near_one v w is least) s.led);
          shortest = all_join (λ (v : Way). (n : ℕ) → IsWithin leads (suc n) v.value → AllByRecursion (IsWithin leads n) (sources v.step)) ws (w ∷ []) s.shortest (own, tt);
        }

    sorting_all : (more ws : List Way) → AllByRecursion (IsLed leads front) more → ((n i : ℕ) → IsWithin leads (suc n) i → has_way ws i ≡ false → near n) → Sorting leads front ws
        → Sorting leads front (with_ways ws more)
    sorting_all [] ws led far s = s
    sorting_all (w ∷ more) ws led far s =
        let still : (n i : ℕ) → IsWithin leads (suc n) i → has_way (ws ++ w ∷ []) i ≡ false → near n =
        λ n i within e. far n i within (or_parts (has_way ws i) (has_way (w ∷ []) i) (sym (has_append ws (w ∷ []) i) ∙ e)).0 in
        elim (cases_Bool (has_way ws w.value)) [
          | inl old ↦ rw old (sorting_all more ws led.1 far s)
          | inr new ↦ rw new (sorting_all more (ws ++ w ∷ []) led.1 still (sorting_one ws w far led.0 new s))
        ]

    pub sorting_added : (more ws new : List Way) → AreAdded more ws new → AllByRecursion (IsLed leads front) more → ((n i : ℕ) → IsWithin leads (suc n) i → has_way ws i ≡ false → near n)
        → Sorting leads front ws → Sorting leads front new
    sorting_added more ws new a led far s = subst (λ (l : List Way). Sorting leads front l) (sym a.added) (sorting_all more ws led far s)

  -- The value that is followed next is the nearest of those that are not followed

  module _ (done x : ℕ) (ws : List Way) (waiting : WaitingEntriesView) (s : Searching leads done ws waiting) (st : Stands ws done x)
      (more : (j : ℕ) → has_way (take (done + 1) ws) j ≡ (has_way (take done ws) j || (x == j))) (sorting : Sorting leads (take done ws) ws) where
    whole : AreSorted leads (take (done + 1) ws ++ drop (done + 1) ws)
    whole = subst (AreSorted leads) (sym (take-append-drop (done + 1) ws)) sorting.sorted

    before : AllByRecursion (λ (v : Way). AllByRecursion (λ (y : Way). IsNoFarther leads v.value y.value) (st.way ∷ [])) (take done ws)
    before = sorted_apart (take done ws) (st.way ∷ []) (subst (AreSorted leads) st.split (sorted_front (take (done + 1) ws) (drop (done + 1) ws) whole))

    -- what is followed is no farther
    nearer : (j : ℕ) → has_way (take done ws) j ≡ true → IsNoFarther leads j x
    nearer j e =
        way_at (λ k. IsNoFarther leads k x) (take done ws) j
        (all_mono (λ (v : Way). AllByRecursion (λ (y : Way). IsNoFarther leads v.value y.value) (st.way ∷ [])) (λ (v : Way). IsNoFarther leads v.value x) (take done ws)
        (λ v is. subst (λ (k : ℕ). IsNoFarther leads v.value k) st.value is.0) before) e

    after : AllByRecursion (λ (y : Way). IsNoFarther leads x y.value) (drop (done + 1) ws)
    after =
        subst (λ (k : ℕ). AllByRecursion (λ (y : Way). IsNoFarther leads k y.value) (drop (done + 1) ws)) st.value
        (last_of (λ (v : Way). AllByRecursion (λ (y : Way). IsNoFarther leads v.value y.value) (drop (done + 1) ws)) (take done ws) st.way (subst (λ (l : List Way). AllByRecursion (λ (v : Way). AllByRecursion (λ (y : Way). IsNoFarther leads v.value y.value) (drop (done + 1) ws)) l) st.split
        (sorted_apart (take (done + 1) ws) (drop (done + 1) ws) whole)))

    -- what is not followed is no nearer
    farther : (i : ℕ) → has_way ws i ≡ true → has_way (take done ws) i ≡ false → IsNoFarther leads x i
    farther i has not_yet =
        let parts : (has_way (take (done + 1) ws) i || has_way (drop (done + 1) ws) i) ≡ true =
        sym (has_append (take (done + 1) ws) (drop (done + 1) ws) i) ∙ subst (λ (l : List Way). has_way l i ≡ true) (sym (take-append-drop (done + 1) ws)) has in
        elim (or_cases (has_way (take (done + 1) ws) i) (has_way (drop (done + 1) ws) i) parts) [
          | inl now ↦
              elim (or_cases (has_way (take done ws) i) (x == i) (sym (more i) ∙ now)) [
                | inl was ↦ absurd (both_ways (has_way (take done ws) i) not_yet was)
                | inr same ↦ subst (λ (k : ℕ). IsNoFarther leads x k) (eqb-true x i same) (λ n is. is)
              ]
          | inr later ↦ way_at (λ k. IsNoFarther leads x k) (drop (done + 1) ws) i after later
        ]

    -- either all are followed, or the value that is followed next is as near
    either : (n : ℕ) → ((j : ℕ) → IsWithin leads n j → (has_way (take done ws) j ≡ true) ⊎ IsWithin leads n x) → (js : List ℕ) → AllByRecursion (IsWithin leads n) js
        → AllByRecursion (λ j. has_way (take done ws) j ≡ true) js ⊎ IsWithin leads n x
    either n each [] all = inl tt
    either n each (j ∷ js) all = elim (each j all.0) [
      | inr near ↦ inr near
      | inl was ↦ elim (either n each js all.1) [ inr near ↦ inr near | inl were ↦ inl (was, were) ]
    ]

    frontier : (n i : ℕ) → IsWithin leads n i → (has_way (take done ws) i ≡ true) ⊎ IsWithin leads n x
    frontier zero i is = absurd is
    frontier (suc n) i is = elim (either n (λ j. frontier n j) (sources is.0) is.2) [
      | inr near ↦ inr (within_more n x near)
      | inl were ↦
          elim (cases_Bool (has_way (take done ws) i)) [
            | inl was ↦ inl was
            | inr not_yet ↦ inr (farther i (covered leads (take done ws) ws waiting s.covers is.0 i is.1 were) not_yet (suc n) is)
          ]
    ]

    -- what has no way yet is farther
    far : (n i : ℕ) → IsWithin leads (suc n) i → has_way ws i ≡ false → IsWithin leads n x
    far n i is none = elim (either n (frontier n) (sources is.0) is.2) [
      | inr near ↦ near
      | inl were ↦ absurd (both_ways (has_way ws i) none (covered leads (take done ws) ws waiting s.covers is.0 i is.1 were))
    ]

    close : (n j : ℕ) → IsWithin leads n x → has_way (take (done + 1) ws) j ≡ true → IsWithin leads n j
    close n j is e = elim (or_cases (has_way (take done ws) j) (x == j) (sym (more j) ∙ e)) [
      | inl was ↦ nearer j was n is
      | inr same ↦ subst (λ (k : ℕ). IsWithin leads n k) (eqb-true x j same) is
    ]

  pub sorting_followed : (done x : ℕ) (ws : List Way) (waiting : WaitingEntriesView) → Searching leads done ws waiting → Stands ws done x
      → ((j : ℕ) → has_way (take (done + 1) ws) j ≡ (has_way (take done ws) j || (x == j))) → (added new : List Way) → AreAdded added ws new
      → AllByRecursion (IsLed leads (take (done + 1) ws)) added → Sorting leads (take done ws) ws → Sorting leads (take (done + 1) ws) new
  sorting_followed done x ws waiting s st more added new a led sorting =
      let here : Sorting leads (take (done + 1) ws) ws =
      record {
        led = led_mono leads (take done ws) (take (done + 1) ws) (λ j e. more j ∙ or_left (has_way (take done ws) j) (x == j) e) ws sorting.led;
        sorted = sorting.sorted;
        shortest = sorting.shortest;
      } in
      sorting_added (take (done + 1) ws) (λ n. IsWithin leads n x) (close done x ws waiting s st more sorting) added ws new a led (far done x ws waiting s st more sorting) here
