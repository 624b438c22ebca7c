-- By the agents' own names: what two agents do may come in either order, unless both access one word and one of them writes.
use Rattle.std.proofs.Common.{◌≡◌, ℕ, zero, suc, ◌<◌, ◌==◌, true, false, cond, sym, ◌∙◌, ap, refl, subst, arith, List, [], ◌∷◌, ◌++◌, drop, Option, Some, inl, inr}
use Rattle.std.specs.Prelude.{slice_get, slice_set, ◌⊎◌}
use Rattle.std.specs.Option.{option_map_or}
use Rattle.std.proofs.lemmas.Bool.{cases_Bool, cases_lt, false≢true, eqb-true, eqb-false}
use Rattle.es_event.specs.declared.event.Event.{Event}
use Rattle.es_event.specs.declared.plan.AgentPlan.{AgentPlan}
use Rattle.es_event.specs.declared.row.Row.{Row}
use Rattle.es_event.specs.Follows.{Permits}
use Rattle.es_event.specs.History.{History}
use Rattle.es_event.specs.Jobs.{receivers}
use Rattle.es_event.specs.Order.{Due, Phase, between, handed, inside, stopped, ended, receive, due, due_at, phase}
use Rattle.es_event.specs.Sharing.{Buffers}
use Rattle.es_agent.specs.Tickets.{is_ended}
use Rattle.es_cluster.proofs.Standing.{set_here, set_there, within}
use Rattle.es_theorems.specs.Alone.{Finds, Goes, Hears, IsLowest, IsSane, Letter, Local, Locals, MaySkip, Rests, Touch, World, addressed, after_event, hears_at, is_done, is_done_at, learned, letters, lore_after, new_lore, over_block, plain, posted_by, sent_by, times, touch_by, with_new, words_after, world_after}
use Rattle.es_theorems.proofs.Touching.{clashes, clashes_turned, hears_same, learned_still, lore_either, lore_of_step, lore_other, took, words_either, lore_still}

-- An agent that goes on has not ended

at_phase : (over : Buffers) (plan : AgentPlan) (h : History) (p : Phase) (e : Event) → Permits over (receivers plan.jobs) h (due_at plan h p) e → is_ended p ≡ false
at_phase over plan h between e p = refl
at_phase over plan h handed e p = refl
at_phase over plan h inside e p = refl
at_phase over plan h stopped e p = refl
at_phase over plan h ended e p = absurd p

pub going : (n : ℕ) (w : World) (i : ℕ) (t : World) (x : Goes n w i t) → is_done x.before ≡ false
going n w i t x = at_phase (with_new x.row x.before.history x.before.over) x.before.plan x.before.history (phase x.before.history) x.event x.next.1

pub waiting_goes : (plan : AgentPlan) (h : History) (p : Phase) (k s : ℕ) → due_at plan h p ≡ receive k s → is_ended p ≡ false
waiting_goes plan h between k s e = refl
waiting_goes plan h handed k s e = refl
waiting_goes plan h inside k s e = refl
waiting_goes plan h stopped k s e = refl
waiting_goes plan h ended k s e = cc

-- What was sent before stays where it was

pub addressed_more : (r : ℕ) (ms ns : List (ℕ × Letter)) → addressed r (ms ++ ns) ≡ addressed r ms ++ addressed r ns
addressed_more r [] ns = refl
addressed_more r (m ∷ ms) ns = elim (cases_Bool (m.0 == r)) [
  | inl e ↦ ap (λ b. cond b (m.1 ∷ addressed r (ms ++ ns)) (addressed r (ms ++ ns))) e ∙ ap (λ ls. m.1 ∷ ls) (addressed_more r ms ns) ∙ sym (ap (λ b. cond b (m.1 ∷ addressed r ms) (addressed r ms) ++ addressed r ns) e)
  | inr e ↦ ap (λ b. cond b (m.1 ∷ addressed r (ms ++ ns)) (addressed r (ms ++ ns))) e ∙ addressed_more r ms ns ∙ sym (ap (λ b. cond b (m.1 ∷ addressed r ms) (addressed r ms) ++ addressed r ns) e)
]

drop_more : {A : Type 0} (k : ℕ) (xs ys : List A) (m : A) (ms : List A) → drop k xs ≡ m ∷ ms → drop k (xs ++ ys) ≡ m ∷ (ms ++ ys)
drop_more zero xs ys m ms e = ap (λ xs. xs ++ ys) e
drop_more (suc k) [] ys m ms e = cc
drop_more (suc k) (x ∷ xs) ys m ms e = drop_more k xs ys m ms e

-- the agents after agent i's step
pub locals_is : (n : ℕ) (w : World) (i : ℕ) (t : World) (x : Goes n w i t) → t.locals ≡ slice_set w.locals i (after_event x.before x.event x.row x.got)
locals_is n w i t x = ap (λ v. v.locals) x.is

pub mine : (n : ℕ) (w : World) (i : ℕ) (t : World) (x : Goes n w i t) → slice_get t.locals i ≡ Some (after_event x.before x.event x.row x.got)
mine n w i t x = ap (λ ls. slice_get ls i) (locals_is n w i t x) ∙ set_here w.locals i (after_event x.before x.event x.row x.got) (within w.locals i x.before x.at)

pub others : (n : ℕ) (w : World) (i : ℕ) (t : World) → Goes n w i t → (j : ℕ) → (i ≡ j → ⊥) → slice_get t.locals j ≡ slice_get w.locals j
others n w i t x j other = ap (λ ls. slice_get ls j) (locals_is n w i t x) ∙ set_there w.locals i j (after_event x.before x.event x.row x.got) (λ same. other (sym same))

-- after agent i's step, another's mail: what lies first still does
still_first : (n : ℕ) (w : World) (i : ℕ) (t : World) → Goes n w i t → (s r : ℕ) (b : Local) (m : Letter) (ms : List Letter) → letters w.locals s r b ≡ m ∷ ms → (more : List Letter) × (letters t.locals s r b ≡ m ∷ more)
still_first n w i t x s r b m ms e = elim (cases_Bool (s == i)) [
  | inl here ↦ (
      let same = eqb-true s i here in
      let posts = addressed r (posted_by x.before.over x.event) in
      let old : sent_by (slice_get w.locals s) r ≡ addressed r x.before.sent = ap (λ s. sent_by (slice_get w.locals s) r) same ∙ ap (λ o. sent_by o r) x.at in
      let now : sent_by (slice_get t.locals s) r ≡ addressed r x.before.sent ++ posts =
      ap (λ s. sent_by (slice_get t.locals s) r) same ∙ ap (λ o. sent_by o r) (mine n w i t x) ∙ addressed_more r x.before.sent (posted_by x.before.over x.event) in
      (ms ++ posts, ap (drop (times s b.got)) now ∙ drop_more (times s b.got) (addressed r x.before.sent) posts m ms (sym (ap (drop (times s b.got)) old) ∙ e)))
  | inr other ↦ (ms, ap (λ o. drop (times s b.got) (sent_by o r)) (others n w i t x s (λ same. eqb-false s i other (sym same))) ∙ e)
]

-- An agent that waits in vain, and another

stands_still : (n : ℕ) (w : World) (i j : ℕ) (t : World) (b : Local) → (i ≡ j → ⊥) → (x : Goes n w i t) → slice_get w.locals j ≡ Some b → is_done b ≡ false → IsLowest w.locals j → ⊥
stands_still n w i j t b other x at here low = by_rest (low.rest i x.before x.at)
  where
    by_find : (d : Due) (s k : ℕ) → d ≡ receive k s → Finds n w.locals w.words i x.before d x.event x.row x.got → Hears w.locals i s x.before (letters w.locals s i x.before) x.event x.row x.got
    by_find d s k is f = subst (λ d. Finds n w.locals w.words i x.before d x.event x.row x.got) is f

    by_none : (s : ℕ) (ls : List Letter) → ls ≡ [] → Hears w.locals i s x.before ls x.event x.row x.got → MaySkip w.locals i s
    by_none s [] is h = h.3
    by_none s (plain v ∷ ls) is h = cc
    by_none s (over_block q ∷ ls) is h = cc

    neither : i < j ⊎ j < i
    neither = elim (cases_lt i j) [
      | inl less ↦ inl less
      | inr more ↦ inr (omega (arith, more, other))
    ]

    by_low : IsLowest w.locals i → ⊥
    by_low mine = elim neither [
      | inl less ↦ false≢true (sym (going n w i t x) ∙ low.lower i x.before x.at less)
      | inr more ↦ false≢true (sym here ∙ mine.lower j b at more)
    ]

    by_skip : (s : ℕ) → is_done_at w.locals s ≡ false → MaySkip w.locals i s → ⊥
    by_skip s off (inl done) = false≢true (sym off ∙ done)
    by_skip s off (inr mine) = by_low mine

    by_rest : Rests w.locals i x.before → ⊥
    by_rest (inl done) = false≢true (sym (going n w i t x) ∙ done)
    by_rest (inr o) = by_skip o.0 o.2.1 (by_none o.0 (letters w.locals o.0 i x.before) o.2.0 (by_find (due x.before.plan x.before.history) o.0 o.1.0 o.1.1 x.finds))

-- What is due finds the same after another's step

done_still : (n : ℕ) (w : World) (i : ℕ) (t : World) → Goes n w i t → (s : ℕ) → is_done_at w.locals s ≡ true → slice_get t.locals s ≡ slice_get w.locals s
done_still n w i t x s done = elim (cases_Bool (s == i)) [
  | inl here ↦ absurd (false≢true (sym (going n w i t x) ∙ sym (ap (λ s. is_done_at w.locals s) (eqb-true s i here) ∙ ap (λ o. option_map_or is_done o false) x.at) ∙ done))
  | inr other ↦ others n w i t x s (λ same. eqb-false s i other (sym same))
]

may_still : (n : ℕ) (w : World) (i j : ℕ) (t : World) (b : Local) → (i ≡ j → ⊥) → Goes n w i t → slice_get w.locals j ≡ Some b → is_done b ≡ false → (s : ℕ) → MaySkip w.locals j s → is_done_at w.locals s ≡ true
may_still n w i j t b other x at here s (inl done) = done
may_still n w i j t b other x at here s (inr low) = absurd (stands_still n w i j t b other x at here low)

hears_of : (all t : Locals) (j s : ℕ) (b : Local) (m : Letter) (ms more : List Letter) (e : Event) (r : Option Row) (g : List ℕ) → Hears all j s b (m ∷ ms) e r g → Hears t j s b (m ∷ more) e r g
hears_of all t j s b (plain v) ms more e r g h = h
hears_of all t j s b (over_block q) ms more e r g h = h

hears_still : (n : ℕ) (w : World) (i j : ℕ) (t : World) (b : Local) → (i ≡ j → ⊥) → Goes n w i t → slice_get w.locals j ≡ Some b → is_done b ≡ false → (s : ℕ) (e : Event) (r : Option Row) (g : List ℕ) (ls : List Letter) → letters w.locals s j b ≡ ls
    → Hears w.locals j s b ls e r g → Hears t.locals j s b (letters t.locals s j b) e r g
hears_still n w i j t b other x at here s e r g [] is h =
    let done = may_still n w i j t b other x at here s h.3 in
    let same : slice_get t.locals s ≡ slice_get w.locals s = done_still n w i t x s done in
    let none : letters t.locals s j b ≡ [] = ap (λ o. drop (times s b.got) (sent_by o j)) same ∙ is in
    subst (λ ls. Hears t.locals j s b ls e r g) (sym none) (h.0, h.1, h.2, inl (ap (λ o. option_map_or is_done o false) same ∙ done))
hears_still n w i j t b other x at here s e r g (m ∷ ms) is h =
    let found = still_first n w i t x s j b m ms is in
    subst (λ ls. Hears t.locals j s b ls e r g) (sym found.1) (hears_of w.locals t.locals j s b m ms found.0 e r g h)

finds_still : (n : ℕ) (w : World) (i j : ℕ) (t : World) (b : Local) → (i ≡ j → ⊥) → Goes n w i t → slice_get w.locals j ≡ Some b → is_done b ≡ false → (d : Due) (e : Event) (r : Option Row) (g : List ℕ) → hears_at t.words (touch_by b.over e) ≡ hears_at w.words (touch_by b.over e)
    → Finds n w.locals w.words j b d e r g → Finds n t.locals t.words j b d e r g
finds_still n w i j t b other x at here (receive k s) e r g same f = hears_still n w i j t b other x at here s e r g (letters w.locals s j b) refl f
finds_still n w i j t b other x at here _ e r g same f = (f.0, f.1, f.2 ∙ sym same)

-- Two agents that may go on may do so in either order

set_either : {X : Type 0} (xs : List X) (i j : ℕ) (x y : X) → (i ≡ j → ⊥) → slice_set (slice_set xs i x) j y ≡ slice_set (slice_set xs j y) i x
set_either [] i j x y other = refl
set_either (z ∷ xs) zero zero x y other = absurd (other refl)
set_either (z ∷ xs) zero (suc j) x y other = refl
set_either (z ∷ xs) (suc i) zero x y other = refl
set_either (z ∷ xs) (suc i) (suc j) x y other = ap (λ ys. z ∷ ys) (set_either xs i j x y (λ same. other (ap suc same)))

-- the access that a step is
abbrev pub touch_of : (n : ℕ) (w : World) (i : ℕ) (t : World) → Goes n w i t → Option Touch
touch_of n w i t x = touch_by x.before.over x.event

-- agent j's step after agent i's
abbrev after_both : (n : ℕ) (w : World) (j : ℕ) (t u : World) → Goes n w j u → World
after_both n w j t u y = world_after t j y.before y.event y.row y.got

behind : (n : ℕ) (w : World) (i j : ℕ) (t u : World) → (i ≡ j → ⊥) → (x : Goes n w i t) → (y : Goes n w j u) → clashes w.words (touch_of n w i t x) (touch_of n w j u y) ≡ false → Goes n t j (after_both n w j t u y)
behind n w i j t u other x y off = record {
  before = y.before;
  at = others n w i t x j other ∙ y.at;
  run = y.run;
  event = y.event;
  row = y.row;
  got = y.got;
  next = y.next;
  finds = finds_still n w i j t y.before other x y.at (going n w j u y) (due y.before.plan y.before.history) y.event y.row y.got
      (ap (λ (v : World). hears_at v.words (touch_by y.before.over y.event)) x.is ∙ hears_same w.words (touch_of n w i t x) (touch_of n w j u y) off) y.finds;
  is = refl;
}

-- what agent j knows after both is what it knows after its own
lore_behind : (n : ℕ) (w : World) (i j : ℕ) (t u : World) → (i ≡ j → ⊥) → IsSane w → (x : Goes n w i t) → (y : Goes n w j u) → clashes w.words (touch_of n w i t x) (touch_of n w j u y) ≡ false
    → (after_both n w j t u y).lore ≡ lore_after (lore_after w.lore i (lore_of_step n w i t x)) j (lore_of_step n w j u y)
lore_behind n w i j t u other sane x y off =
    ap (λ o. lore_after t.lore j (new_lore o j (learned t.lore j y.before y.got) t.words y.before y.event)) (lore_other n w i t x j other)
    ∙ ap (λ k. lore_after t.lore j (new_lore (w.lore j) j k t.words y.before y.event)) (learned_still n w i t sane x j y.before y.got (took n w.locals w.words j y.before (due y.before.plan y.before.history) y.event y.row y.got y.finds))
    ∙ ap (lore_after t.lore j)
    (ap (λ (v : World). new_lore (w.lore j) j (learned w.lore j y.before y.got) v.words y.before y.event) x.is
    ∙ lore_still (w.lore j) j (learned w.lore j y.before y.got) w.words (touch_of n w i t x) (touch_of n w j u y) (posted_by y.before.over y.event) off)
    ∙ ap (λ f. lore_after f j (lore_of_step n w j u y)) (ap (λ v. v.lore) x.is)

both_after : (n : ℕ) (w : World) (i j : ℕ) (t u : World) → (i ≡ j → ⊥) → IsSane w → (x : Goes n w i t) → (y : Goes n w j u) → clashes w.words (touch_of n w i t x) (touch_of n w j u y) ≡ false → after_both n w i u t x ≡ after_both n w j t u y
both_after n w i j t u other sane x y off = λ k. record { locals = agents k; lore = lore k; words = words k }
  where
    new : Local
    new = after_event x.before x.event x.row x.got

    now : Local
    now = after_event y.before y.event y.row y.got

    agents : slice_set u.locals i new ≡ slice_set t.locals j now
    agents = sym (ap (λ t. slice_set t j now) (locals_is n w i t x) ∙ set_either w.locals i j new now other ∙ sym (ap (λ u. slice_set u i new) (locals_is n w j u y)))

    lore : (after_both n w i u t x).lore ≡ (after_both n w j t u y).lore
    lore = lore_behind n w j i u t (λ same. other (sym same)) sane y x (clashes_turned w.words (touch_of n w j u y) (touch_of n w i t x) ∙ off) ∙ lore_either w.lore j i (lore_of_step n w j u y) (lore_of_step n w i t x) (λ same. other (sym same)) ∙ sym (lore_behind n w i j t u other sane x y off)

    words : words_after u.words (touch_of n w i t x) ≡ words_after t.words (touch_of n w j u y)
    words =
        ap (λ (v : World). words_after v.words (touch_of n w i t x)) y.is
        ∙ sym (words_either w.words (touch_of n w i t x) (touch_of n w j u y) off)
        ∙ sym (ap (λ (v : World). words_after v.words (touch_of n w j u y)) x.is)

pub both_go : (n : ℕ) (w : World) (i j : ℕ) (t u : World) → (i ≡ j → ⊥) → IsSane w → (x : Goes n w i t) → (y : Goes n w j u) → clashes w.words (touch_of n w i t x) (touch_of n w j u y) ≡ false → (v : World) × Goes n t j v × Goes n u i v
both_go n w i j t u other sane x y off = (
  after_both n w j t u y,
  behind n w i j t u other x y off,
  subst (λ v. Goes n u i v) (both_after n w i j t u other sane x y off) (behind n w j i u t (λ same. other (sym same)) y x (clashes_turned w.words (touch_of n w j u y) (touch_of n w i t x) ∙ off)),
)
