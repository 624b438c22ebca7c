-- A value is followed: what it leads to has a way then, and the list is still in order.
use Rattle.std.proofs.Common.{◌≡◌, ℕ, ◌+◌, ◌<◌, ◌==◌, ◌||◌, Bool, true, false, sym, ◌∙◌, ap, subst, arith, List, [], ◌∷◌, ◌++◌, length, take, inl, inr, refl, if◌then◌else◌}
use Rattle.std.specs.List.{AllByRecursion}
use Rattle.std.proofs.lemmas.Bool.{cases_Bool, or_cases, or_left, or_right, or_from, eq-eqb, eqb-true}
use Rattle.es_mark.specs.declared.step.Step.{Step}
use Rattle.es_mark.specs.declared.step.Step.TheVariants.{Variable, Kept, Registry, Held, Property, Entry}
use Rattle.es_mark.specs.declared.way.Way.{Way}
use Rattle.es_mark.specs.Ways.{has_way}
use Rattle.es_mark.specs.Finds.{Finds, FindsEntries, has_pair}
use Rattle.es_mark.specs.Added.{AreAdded}
use Rattle.es_mark.specs.WaitingEntries.{WaitingEntriesView, waiting_for}
use Rattle.es_mark.specs.Search.{HasRoom, IsLed, IsWaiting, Covers, Searching, Sorting, Stands, AreEntered, ready, delayed, released}
use Rattle.es_mark.proofs.Adding.{has_append, has_take, added_more, added_keeps, added_has, added_front, added_length, added_ordered, led_mono}
use Rattle.es_mark.proofs.Finding.{found_led, found_every, entries_only, entries_every}
use Rattle.es_mark.proofs.Lists.{all_mono, all_join}
use Rattle.es_mark.proofs.Pairs.{pair_front, pair_back, has_ready, has_delayed, has_released, led_ready, waits_delayed, led_released}
use Rattle.es_mark.proofs.Sorted.{sorting_followed}

or_none : (b : Bool) → (b || false) ≡ b
or_none true = refl
or_none false = refl

-- the first ways with one more
stands_more : (ws : List Way) (place x : ℕ) → Stands ws place x → (j : ℕ) → has_way (take (place + 1) ws) j ≡ (has_way (take place ws) j || (x == j))
stands_more ws place x st j =
    let last : has_way (st.way ∷ []) j ≡ (x == j) = subst (λ (v : ℕ). has_way (st.way ∷ []) j ≡ (v == j)) st.value (or_none (st.way.value == j)) in
    ap (λ (l : List Way). has_way l j) st.split ∙ has_append (take place ws) (st.way ∷ []) j ∙ ap (λ (b : Bool). has_way (take place ws) j || b) last

module _ (leads : Step → ℕ → Type 0) (done x : ℕ) (ws : List Way) (waited : WaitingEntriesView) (s : Searching leads done ws waited) (within : done < length ws) (st : Stands ws done x)
    (found next : List Way) (f : Finds leads (x ∷ []) [] found) (added : AreAdded found ws next) (es : List (ℕ × ℕ)) (g : FindsEntries leads x [] es) (last : List Way) (waiting : WaitingEntriesView)
    (entered : AreEntered (done + 1) x es next waited last waiting) where
  more : (j : ℕ) → has_way (take (done + 1) ws) j ≡ (has_way (take done ws) j || (x == j))
  more = stands_more ws done x st

  -- what was followed is followed, and the value too
  was_followed : (j : ℕ) → has_way (take done ws) j ≡ true → has_way (take (done + 1) ws) j ≡ true
  was_followed j e = more j ∙ or_left (has_way (take done ws) j) (x == j) e

  here : has_way (take (done + 1) ws) x ≡ true
  here = more x ∙ or_right (has_way (take done ws) x) (x == x) (eq-eqb x x refl)

  -- the first ways are the same all along
  front_next : take (done + 1) next ≡ take (done + 1) ws
  front_next = added_front added (done + 1) (omega arith)

  entries_added : AreAdded (ready (take (done + 1) next) x es) next last
  entries_added = record { added = entered.listed }

  -- what waits

  waits_still : (m : ℕ) → AllByRecursion (IsWaiting leads (take (done + 1) ws) m) (waiting_for waiting m)
  waits_still m =
      subst (λ (l : List (ℕ × ℕ)). AllByRecursion (IsWaiting leads (take (done + 1) ws) m) l) (sym (entered.waits m))
      (all_join (IsWaiting leads (take (done + 1) ws) m) (waiting_for waited m) (delayed (take (done + 1) next) x es m)
      (all_mono (IsWaiting leads (take done ws) m) (IsWaiting leads (take (done + 1) ws) m) (waiting_for waited m) (λ e is. (is.0, was_followed e.0 is.1)) (s.waits m))
      (waits_delayed leads (take (done + 1) ws) (take (done + 1) next) x es m here (entries_only g)))

  pub waits_fit : (size : ℕ) → HasRoom leads size → AllByRecursion (λ (e : ℕ × ℕ). e.1 < size) (waiting_for waiting x)
  waits_fit size room =
      all_mono (IsWaiting leads (take (done + 1) ws) x) (λ (e : ℕ × ℕ). e.1 < size) (waiting_for waiting x) (λ e is. room (Entry x e.0) e.1 is.0) (waits_still x)

  module _ (new : List Way) (freed : AreAdded (released x (waiting_for waiting x)) last new) where
    -- all that is added

    all_added : AreAdded (found ++ (ready (take (done + 1) next) x es ++ released x (waiting_for waiting x))) ws new
    all_added =
        added_more found (ready (take (done + 1) next) x es ++ released x (waiting_for waiting x)) ws next new added
        (added_more (ready (take (done + 1) next) x es) (released x (waiting_for waiting x)) next last new entries_added freed)

    all_led : AllByRecursion (IsLed leads (take (done + 1) ws)) (found ++ (ready (take (done + 1) next) x es ++ released x (waiting_for waiting x)))
    all_led =
        all_join (IsLed leads (take (done + 1) ws)) found (ready (take (done + 1) next) x es ++ released x (waiting_for waiting x)) (found_led f (take (done + 1) ws) (here, tt))
        (all_join (IsLed leads (take (done + 1) ws)) (ready (take (done + 1) next) x es) (released x (waiting_for waiting x))
        (led_ready leads (take (done + 1) ws) (take (done + 1) next) x es (λ j e. subst (λ (l : List Way). has_way l j ≡ true) front_next e) here (entries_only g))
        (led_released leads (take (done + 1) ws) x (waiting_for waiting x) here (waits_still x)))

    front_new : take (done + 1) new ≡ take (done + 1) ws
    front_new = added_front all_added (done + 1) (omega arith)

    to_new : (i : ℕ) → has_way ws i ≡ true → has_way new i ≡ true
    to_new i e = added_keeps all_added i e

    -- an entry whose key was followed before
    old_key : (m k i : ℕ) → (if has_way (take done ws) m then has_way ws i else has_pair (waiting_for waited m) k i) ≡ true
        → (if has_way (take (done + 1) ws) m then has_way new i else has_pair (waiting_for waiting m) k i) ≡ true
    old_key m k i old = elim (cases_Bool (has_way (take done ws) m)) [
      | inl was ↦
          let had : has_way ws i ≡ true = rw was at old in
          rw (was_followed m was) (to_new i had)
      | inr was ↦
          let before : has_pair (waiting_for waited m) k i ≡ true = rw was at old in
          let still : has_pair (waiting_for waiting m) k i ≡ true =
          subst (λ (l : List (ℕ × ℕ)). has_pair l k i ≡ true) (sym (entered.waits m)) (pair_front (waiting_for waited m) (delayed (take (done + 1) next) x es m) k i before) in
          elim (cases_Bool (x == m)) [
            | inl same ↦
                let now : has_way (take (done + 1) ws) m ≡ true = more m ∙ or_right (has_way (take done ws) m) (x == m) same in
                let mine : has_pair (waiting_for waiting x) k i ≡ true = subst (λ (j : ℕ). has_pair (waiting_for waiting j) k i ≡ true) (sym (eqb-true x m same)) still in
                rw now (added_has freed i (has_released x (waiting_for waiting x) k i mine))
            | inr other ↦
                let never : has_way (take (done + 1) ws) m ≡ false = more m ∙ or_from (has_way (take done ws) m) (x == m) was other in
                rw never still
          ]
    ]

    -- an entry whose key is followed now
    new_key : (m i : ℕ) → leads (Entry m x) i → (if has_way (take (done + 1) ws) m then has_way new i else has_pair (waiting_for waiting m) x i) ≡ true
    new_key m i led =
        let pair : has_pair es m i ≡ true = entries_every g m i led in
        elim (cases_Bool (has_way (take (done + 1) ws) m)) [
          | inl now ↦
              let front : has_way (take (done + 1) next) m ≡ true = subst (λ (l : List Way). has_way l m ≡ true) (sym front_next) now in
              rw now (added_keeps freed i (added_has entries_added i (has_ready (take (done + 1) next) x es m i pair front)))
          | inr never ↦
              let front : has_way (take (done + 1) next) m ≡ false = subst (λ (l : List Way). has_way l m ≡ false) (sym front_next) never in
              let still : has_pair (waiting_for waiting m) x i ≡ true =
              subst (λ (l : List (ℕ × ℕ)). has_pair l x i ≡ true) (sym (entered.waits m))
              (pair_back (waiting_for waited m) (delayed (take (done + 1) next) x es m) x i (has_delayed (take (done + 1) next) x es m i pair front)) in
              rw never still
        ]

    covers_new : (t : Step) (i : ℕ) → leads t i → Covers (take (done + 1) ws) new waiting t i
    covers_new (Variable n) i led = to_new i (s.covers (Variable n) i led)
    covers_new Kept i led = to_new i (s.covers Kept i led)
    covers_new Registry i led = to_new i (s.covers Registry i led)
    covers_new (Held n) i led = to_new i (s.covers (Held n) i led)
    covers_new (Property o n) i led = λ e.
        elim (or_cases (has_way (take done ws) o) (x == o) (sym (more o) ∙ e)) [
          | inl was ↦ to_new i (s.covers (Property o n) i led was)
          | inr now ↦
              added_keeps freed i (added_keeps entries_added i (added_has added i (found_every f (Property o n) i led (ap (λ (j : ℕ). j ∷ []) (sym (eqb-true x o now))))))
        ]
    covers_new (Entry m k) i led = λ e.
        elim (or_cases (has_way (take done ws) k) (x == k) (sym (more k) ∙ e)) [
          | inl was ↦ old_key m k i (s.covers (Entry m k) i led was)
          | inr now ↦
              let same : x ≡ k = eqb-true x k now in
              subst (λ (j : ℕ). (if has_way (take (done + 1) ws) m then has_way new i else has_pair (waiting_for waiting m) j i) ≡ true) same
              (new_key m i (subst (λ (j : ℕ). leads (Entry m j) i) (sym same) led))
        ]

    pub followed : Searching leads (done + 1) new waiting
    followed = record {
      bound = omega (arith, added_length all_added);
      ordered =
          added_ordered leads (found ++ (ready (take (done + 1) next) x es ++ released x (waiting_for waiting x))) ws new all_added s.ordered
          (led_mono leads (take (done + 1) ws) ws (has_take (done + 1) ws) (found ++ (ready (take (done + 1) next) x es ++ released x (waiting_for waiting x))) all_led);
      covers = λ t i led. subst (λ (l : List Way). Covers l new waiting t i) (sym front_new) (covers_new t i led);
      waits = λ m. subst (λ (l : List Way). AllByRecursion (IsWaiting leads l m) (waiting_for waiting m)) (sym front_new) (waits_still m);
    }

    pub still_sorted : Sorting leads (take done ws) ws → Sorting leads (take (done + 1) new) new
    still_sorted sorting =
        subst (λ (l : List Way). Sorting leads l new) (sym front_new)
        (sorting_followed leads done x ws waited s st more (found ++ (ready (take (done + 1) next) x es ++ released x (waiting_for waiting x))) new all_added all_led sorting)
