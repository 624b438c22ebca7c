-- The ways that are told, from the last to the first.
use Rattle.std.proofs.Common.{◌≡◌, ℕ, zero, suc, ◌+◌, ◌<◌, ◌≤◌, ◌&&◌, ◌||◌, Bool, true, false, cond, sym, ◌∙◌, ap, subst, arith, List, [], ◌∷◌, ◌++◌, drop, length, reverse, refl}
use Rattle.std.specs.List.{AllByRecursion}
use Rattle.std.proofs.Math.ListN.{get_or}
use Rattle.std.proofs.lemmas.List.{append-nil, reverse-append, reverse-reverse, drop_more, drop_all}
use Rattle.es_value.specs.Ids.{is_in}
use Rattle.es_mark.specs.declared.step.Step.{Step}
use Rattle.es_mark.specs.declared.way.Way.{Way}
use Rattle.es_mark.specs.Ways.{sources, AreOrdered}
use Rattle.es_why.specs.Chosen.{Chosen}
use Rattle.es_why.specs.Flags.{is_set, Sets}
use Rattle.es_why.specs.Kept.{is_source, ways_for}

-- what holds of all holds at each place, and of those that are told

pub all_at : {X : Type 0} (P : X → Type 0) (xs : List X) (i : ℕ) (x : X) → AllByRecursion P xs → i < length xs → x ≡ get_or xs i x → P x
all_at P [] i x all l is = absurd (omega (arith, l))
all_at P (y ∷ xs) zero x all l is = subst P (sym is) all.0
all_at P (y ∷ xs) (suc i) x all l is = all_at P xs i x all.1 (omega (arith, l)) is

pub all_told : (P : Way → Type 0) (t : ℕ → Bool) (ws : List Way) → AllByRecursion P ws → AllByRecursion P (ways_for t ws)
all_told P t [] all = tt
all_told P t (w ∷ ws) all = one (t w.value || is_source (ways_for t ws) w.value) (all_told P t ws all.1)
  where
    one : (b : Bool) → AllByRecursion P (ways_for t ws) → AllByRecursion P (cond b (w ∷ ways_for t ws) (ways_for t ws))
    one true rest = (all.0, rest)
    one false rest = rest

pub ordered_led : (leads : Step → ℕ → Type 0) (before ws : List Way) → AreOrdered leads before ws → AllByRecursion (λ w. leads w.step w.value) ws
ordered_led leads before [] ordered = tt
ordered_led leads before (w ∷ ws) ordered = (ordered.0.led, ordered_led leads (before ++ w ∷ []) ws ordered.1)

-- where all are told, all ways are
pub all_ways : (ws : List Way) → ways_for (λ i. true) ws ≡ ws
all_ways [] = refl
all_ways (w ∷ ws) = ap (λ (l : List Way). w ∷ l) (all_ways ws)

-- Backwards

more_sources : (b : Bool) (w : Way) (ws : List Way) (i : ℕ) → is_source (cond b (w ∷ ws) ws) i ≡ ((b && is_in (sources w.step) i) || is_source ws i)
more_sources true w ws i = refl
more_sources false w ws i = refl

more_reversed : (b : Bool) (w : Way) (ws : List Way) → reverse (cond b (w ∷ ws) ws) ≡ reverse ws ++ cond b (w ∷ []) []
more_reversed true w ws = reverse-append (w ∷ []) ws
more_reversed false w ws = sym (append-nil (reverse ws))

module _ (t : ℕ → Bool) (most : ℕ) where
  chosen_one : (w : Way) (rest : List Way) (b : Bool) (needed needs : List Bool) (chosen chose : List Way)
      → Chosen t most rest needed chosen → w.value ≤ most → b ≡ (t w.value || is_set needed w.value) → Sets (λ i. b && is_in (sources w.step) i) needed needs
      → chose ≡ chosen ++ cond b (w ∷ []) [] → Chosen t most (w ∷ rest) needs chose
  chosen_one w rest b needed needs chosen chose was bound tells sets is =
      let room : most < length needed = was.room in
      let places : length needs ≡ length needed = sets.places in
      let here : w.value < length needed = omega (arith, bound, room) in
      let same : b ≡ (t w.value || is_source (ways_for t rest) w.value) = tells ∙ ap (λ c. t w.value || c) (was.comes w.value here) in
      let long : cond b (w ∷ ways_for t rest) (ways_for t rest) ≡ ways_for t (w ∷ rest) = ap (λ c. cond c (w ∷ ways_for t rest) (ways_for t rest)) same in
      record {
        room = omega (arith, room, places);
        comes = λ i l.
            sets.set i (omega (arith, l, places))
            ∙ ap (λ c. (b && is_in (sources w.step) i) || c) (was.comes i (omega (arith, l, places)))
            ∙ sym (more_sources b w (ways_for t rest) i)
            ∙ ap (λ (l : List Way). is_source l i) long;
        listed = is ∙ ap (λ (l : List Way). l ++ cond b (w ∷ []) []) was.listed ∙ sym (more_reversed b w (ways_for t rest)) ∙ ap (λ (l : List Way). reverse l) long;
      }

  pub chosen_none : (ws : List Way) (needed : List Bool) (n : ℕ) → length ws ≤ n → most < length needed → ((i : ℕ) → is_set needed i ≡ false) → Chosen t most (drop n ws) needed []
  chosen_none ws needed n all room none =
      subst (λ (l : List Way). Chosen t most l needed []) (sym (drop_all n ws all)) record {
        room = room;
        comes = λ i l. none i;
        listed = refl;
      }

  -- one way more, in front of those that were gone through
  pub chosen_more : (ws : List Way) (at next : ℕ) (w : Way) (b : Bool) (needed needs : List Bool) (chosen chose : List Way)
      → at < length ws → next ≡ at + 1 → w ≡ get_or ws at w → AllByRecursion (λ w. w.value ≤ most) ws
      → Chosen t most (drop next ws) needed chosen → b ≡ (t w.value || is_set needed w.value) → Sets (λ i. b && is_in (sources w.step) i) needed needs
      → chose ≡ chosen ++ cond b (w ∷ []) [] → Chosen t most (drop at ws) needs chose
  chosen_more ws at next w b needed needs chosen chose within after is bounds was tells sets chooses =
      let front : drop at ws ≡ w ∷ drop next ws =
      drop_more ws at w within ∙ ap (λ (v : Way). v ∷ drop (at + 1) ws) (sym is) ∙ ap (λ (n : ℕ). w ∷ drop n ws) (sym after) in
      subst (λ (l : List Way). Chosen t most l needs chose) (sym front)
      (chosen_one w (drop next ws) b needed needs chosen chose was (all_at (λ w. w.value ≤ most) ws at w bounds within is) tells sets chooses)

  pub chosen_all : (ws : List Way) (needed : List Bool) (chosen : List Way) (n : ℕ) → n ≡ 0 → Chosen t most (drop n ws) needed chosen → reverse chosen ≡ ways_for t ws
  chosen_all ws needed chosen n is all =
      ap (λ (l : List Way). reverse l) all.listed ∙ reverse-reverse (ways_for t (drop n ws)) ∙ ap (λ (m : ℕ). ways_for t (drop m ws)) is
