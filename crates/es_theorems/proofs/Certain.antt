-- By the agents' own names: an agent's next step is settled, and so is what all their steps come to, where no two of their accesses race.
use Rattle.std.proofs.Common.{◌≡◌, ℕ, zero, suc, ◌+◌, ◌==◌, true, sym, ◌∙◌, ap, refl, subst, arith, List, [], ◌∷◌, length, Option, Some, None, inl, inr, Bool, false, ◌&&◌, ◌||◌}
use Rattle.std.specs.Prelude.{slice_get}
use Rattle.std.proofs.lemmas.Bool.{cases_Bool, false≢true, eqb-true, eqb-false}
use Rattle.es_value.specs.declared.value.Value.{Value}
use Rattle.es_value.specs.declared.value.Value.TheVariants.{Object}
use Rattle.es_event.specs.declared.command.Command.{Command}
use Rattle.es_event.specs.declared.command.Command.TheVariants.{SharedArrayBuffer}
use Rattle.es_event.specs.declared.event.Answer.{Answer}
use Rattle.es_event.specs.declared.event.Event.{Event}
use Rattle.es_event.specs.declared.event.Event.TheVariants.{Received, Did, Refused}
use Rattle.es_event.specs.declared.event.Refusal.{Refusal}
use Rattle.es_event.specs.declared.event.Refusal.TheVariants.{TooManyValues}
use Rattle.es_event.specs.declared.plan.AgentPlan.{AgentPlan}
use Rattle.es_event.specs.declared.row.Row.{Row}
use Rattle.es_event.specs.Access.{change_by}
use Rattle.es_event.specs.Commands.{opens_words}
use Rattle.es_event.specs.Follows.{Permits, done_for, refused_now}
use Rattle.es_event.specs.History.{History}
use Rattle.es_event.specs.Identities.{made}
use Rattle.es_event.specs.Jobs.{Receivers, receivers}
use Rattle.es_event.specs.Heard.{heard_by}
use Rattle.es_event.specs.Legal.{HasWords, Lawful, LegalBy}
use Rattle.es_event.specs.Order.{Due, receive, run, due, RunsNow}
use Rattle.es_event.specs.Rows.{row}
use Rattle.es_event.specs.Runs.{ComesNext, IsRunOver, heard}
use Rattle.es_event.specs.Sharing.{Buffers, blocks_opened}
use Rattle.es_event.proofs.Extending.{agrees_longer, same_completion, still_permitted}
use Rattle.es_event.proofs.Next.{one_next}
use Rattle.es_laws.specs.Races.{Mark}
use Rattle.es_theorems.specs.Alone.{AreDone, Finds, GoFar, Goes, Hears, IsFree, IsSane, Letter, Local, Locals, Touch, Words, World, hears_at, is_known, letters, named, opened_row, over_block, plain, touch_by, touched_by, with_new, world_after, Lore, Touched, change_at, changes, clash, is_over, words_after}
use Rattle.es_theorems.proofs.Beyond.{both_go, going, others, touch_of}
use Rattle.es_theorems.proofs.Pending.{stands_there, touch_due, will_stand, stands_later}
use Rattle.es_theorems.proofs.Sane.{sane_after}
use Rattle.es_theorems.proofs.Touching.{clashes, either, lore_other, touched_far, word_kept}

-- An event with which no block comes may come over a table with one more buffer

needs_no_words : (over : Buffers) (o n i : ℕ) (h : History) (c : Command) (vs : List Value) (r : Answer) → opened_row n i h (Did (c, vs, r)) ≡ None → HasWords over o (opens_words c)
needs_no_words over o n i h (SharedArrayBuffer to w) vs r e = cc
needs_no_words over o n i h _ vs r e = tt

lawful_longer : (n i : ℕ) (m : Words) (over : Buffers) (q : Row) (into : Receivers) (h : History) → LegalBy over into h → (e : Event) → opened_row n i h e ≡ None → heard e ≡ hears_at m (touch_by over e) → Lawful over into h e → Lawful ((made h + 1, q) ∷ over) into h e
lawful_longer n i m over q into h legal (Did (c, vs, r)) none still l =
    (l.0, same_completion over ((made h + 1, q) ∷ over) into h legal (agrees_longer h over q) c vs (heard_by c r) ∙ l.1, l.2, needs_no_words ((made h + 1, q) ∷ over) (made h + 1) n i h c vs r none)
lawful_longer n i m over q into h legal (Received t v) none still l = cc
lawful_longer n i m over q into h legal _ none still l = l

longer : (n i : ℕ) (m : Words) (over : Buffers) (q : Row) (plan : AgentPlan) (h : History) → IsRunOver over plan h → (e : Event) → opened_row n i h e ≡ None → heard e ≡ hears_at m (touch_by over e) → ComesNext over plan h e → ComesNext ((made h + 1, q) ∷ over) plan h e
longer n i m over q plan h ran e none still next =
    (lawful_longer n i m over q (receivers plan.jobs) h ran.0 e none still next.0, still_permitted over ((made h + 1, q) ∷ over) (receivers plan.jobs) h (due plan h) e ran.0 (agrees_longer h over q) next.1)

-- An event with which a block comes

record OpensThis (n i : ℕ) (h : History) (e : Event) (q : Row) : Type 0 where
  to : List ℕ
  words : ℕ
  values : List Value
  answer : Answer
  event : e ≡ Did (SharedArrayBuffer to words, values, answer)
  row : q ≡ row 0 (named n i (blocks_opened h)) words

opens_did : (n i : ℕ) (h : History) (c : Command) (vs : List Value) (r : Answer) (q : Row) → opened_row n i h (Did (c, vs, r)) ≡ Some q → OpensThis n i h (Did (c, vs, r)) q
opens_did n i h (SharedArrayBuffer to w) vs r q is = let same : q ≡ row 0 (named n i (blocks_opened h)) w = cc in record { to = to; words = w; values = vs; answer = r; event = refl; row = same }
opens_did n i h _ vs r q is = cc

opens_this : (n i : ℕ) (h : History) (e : Event) (q : Row) → opened_row n i h e ≡ Some q → OpensThis n i h e q
opens_this n i h (Did (c, vs, r)) q is = opens_did n i h c vs r q is
opens_this n i h _ q is = cc

-- a block is opened by the due command itself, never by an assignment in its place
opens_itself : (o : Option Refusal) (x : Option (List ℕ)) (c : Command) (to : List ℕ) (w : ℕ) → SharedArrayBuffer to w ≡ done_for o x c → c ≡ SharedArrayBuffer to w
opens_itself None x c to w is = sym is
opens_itself (Some code) None c to w is = sym is
opens_itself (Some code) (Some y) c to w is = cc

is_due : (over : Buffers) (into : Receivers) (h : History) (d : Due) (to : List ℕ) (w : ℕ) (vs : List Value) (r : Answer) → Permits over into h d (Did (SharedArrayBuffer to w, vs, r)) → RunsNow d (SharedArrayBuffer to w)
is_due over into h (run x c) to w vs r p = (x, ap (run x) (opens_itself (refused_now over into h c) x c to w p))
is_due over into h _ to w vs r p = absurd p

-- An event that hears nobody

one_of : (n i : ℕ) (m : Words) (a : Local) → IsRunOver a.over a.plan a.history → (e f : Event) (r q : Option Row) → r ≡ opened_row n i a.history e → q ≡ opened_row n i a.history f → heard e ≡ heard f → heard e ≡ hears_at m (touch_by a.over e) → heard f ≡ hears_at m (touch_by a.over f)
    → ComesNext (with_new r a.history a.over) a.plan a.history e → ComesNext (with_new q a.history a.over) a.plan a.history f → e ≡ f
one_of n i m a ran e f None None rows cols alike quiet still x y = one_next a.over a.plan a.history e f x y alike
one_of n i m a ran e f (Some r) None rows cols alike quiet still x y =
    one_next ((made a.history + 1, r) ∷ a.over) a.plan a.history e f x (longer n i m a.over r a.plan a.history ran f (sym cols) still y) alike
one_of n i m a ran e f None (Some q) rows cols alike quiet still x y =
    one_next ((made a.history + 1, q) ∷ a.over) a.plan a.history e f (longer n i m a.over q a.plan a.history ran e (sym rows) quiet x) y alike
one_of n i m a ran e f (Some r) (Some q) rows cols alike quiet still x y =
    let u = opens_this n i a.history e r (sym rows) in
    let v = opens_this n i a.history f q (sym cols) in
    let here : RunsNow (due a.plan a.history) (SharedArrayBuffer u.to u.words) = due_of r e u.to u.words u.values u.answer u.event x in
    let there : RunsNow (due a.plan a.history) (SharedArrayBuffer v.to v.words) = due_of q f v.to v.words v.values v.answer v.event y in
    let sizes : u.words ≡ v.words = (let both = sym here.1 ∙ there.1 in cc) in
    let same : q ≡ r = v.row ∙ ap (λ w. row 0 (named n i (blocks_opened a.history)) w) (sym sizes) ∙ sym u.row in
    one_next ((made a.history + 1, r) ∷ a.over) a.plan a.history e f x (subst (λ r. ComesNext ((made a.history + 1, r) ∷ a.over) a.plan a.history f) same y) alike
  where
    due_of : (r : Row) (e : Event) (to : List ℕ) (w : ℕ) (vs : List Value) (z : Answer) → e ≡ Did (SharedArrayBuffer to w, vs, z) → ComesNext ((made a.history + 1, r) ∷ a.over) a.plan a.history e → RunsNow (due a.plan a.history) (SharedArrayBuffer to w)
    due_of r e to w vs z is x =
        is_due ((made a.history + 1, r) ∷ a.over) (receivers a.plan.jobs) a.history (due a.plan a.history) to w vs z
        (subst (λ e. Permits ((made a.history + 1, r) ∷ a.over) (receivers a.plan.jobs) a.history (due a.plan a.history) e) is x.1)

-- two ways to go on are one
record Agree (e f : Event) (r q : Option Row) (g k : List ℕ) : Type 0 where
  event : e ≡ f
  row : r ≡ q
  got : g ≡ k

-- A message

full_or_not : (over more : Buffers) (a : Local) (k s m z : ℕ) → due a.plan a.history ≡ receive k s → (e f : Event) → e ≡ Received s (Object (made a.history + 1)) → f ≡ Refused TooManyValues → ComesNext over a.plan a.history e → ComesNext more a.plan a.history f → ⊥
full_or_not over more a k s m z at e f is are x y =
    let into = receivers a.plan.jobs in
    let one : Permits over into a.history (receive k s) (Received s (Object (made a.history + 1))) = subst (λ d. Permits over into a.history d (Received s (Object (made a.history + 1)))) at (subst (λ e. Permits over into a.history (due a.plan a.history) e) is x.1) in
    let two : Permits more into a.history (receive k s) (Refused TooManyValues) = subst (λ d. Permits more into a.history d (Refused TooManyValues)) at (subst (λ f. Permits more into a.history (due a.plan a.history) f) are y.1) in
    false≢true (sym two.1 ∙ one.1)

one_heard : (all : Locals) (i k s : ℕ) (a : Local) (ls : List Letter) → due a.plan a.history ≡ receive k s → (e f : Event) (r q : Option Row) (g h : List ℕ) → ComesNext (with_new r a.history a.over) a.plan a.history e → ComesNext (with_new q a.history a.over) a.plan a.history f
    → Hears all i s a ls e r g → Hears all i s a ls f q h → Agree e f r q g h
one_heard all i k s a [] at e f r q g h x y u v =
    let rows : r ≡ q = u.1 ∙ sym v.1 in
    record {
      event = one_next (with_new q a.history a.over) a.plan a.history e f (subst (λ r. ComesNext (with_new r a.history a.over) a.plan a.history e) rows x) y (ap heard u.0.1 ∙ sym (ap heard v.0.1));
      row = rows;
      got = u.2 ∙ sym v.2;
    }
one_heard all i k s a (plain w ∷ ls) at e f r q g h x y u v = record { event = u.0 ∙ sym v.0; row = u.1 ∙ sym v.1; got = u.2 ∙ sym v.2 }
one_heard all i k s a (over_block p ∷ ls) at e f r q g h x y (inl u, c) (inl v, d) = record { event = u.0 ∙ sym v.0; row = u.1 ∙ sym v.1; got = c ∙ sym d }
one_heard all i k s a (over_block p ∷ ls) at e f r q g h x y (inr u, c) (inr v, d) = record { event = u.0 ∙ sym v.0; row = u.1 ∙ sym v.1; got = c ∙ sym d }
one_heard all i k s a (over_block p ∷ ls) at e f r q g h x y (inl u, c) (inr v, d) = absurd (full_or_not (with_new r a.history a.over) (with_new q a.history a.over) a k s 0 0 at e f u.0 v.0 x y)
one_heard all i k s a (over_block p ∷ ls) at e f r q g h x y (inr u, c) (inl v, d) = absurd (full_or_not (with_new q a.history a.over) (with_new r a.history a.over) a k s 0 0 at f e v.0 u.0 y x)

-- Whatever is due

silent_one : (n i : ℕ) (m : Words) (a : Local) → IsRunOver a.over a.plan a.history → (e f : Event) (r q : Option Row) (g h : List ℕ) → touch_by a.over e ≡ touch_by a.over f → ComesNext (with_new r a.history a.over) a.plan a.history e
    → ComesNext (with_new q a.history a.over) a.plan a.history f → (r ≡ opened_row n i a.history e) × (g ≡ []) × (heard e ≡ hears_at m (touch_by a.over e)) → (q ≡ opened_row n i a.history f) × (h ≡ []) × (heard f ≡ hears_at m (touch_by a.over f)) → Agree e f r q g h
silent_one n i m a ran e f r q g h touch x y u v =
    let same : e ≡ f = one_of n i m a ran e f r q u.0 v.0 (u.2 ∙ ap (hears_at m) touch ∙ sym v.2) u.2 v.2 x y in
    record { event = same; row = u.0 ∙ ap (λ e. opened_row n i a.history e) same ∙ sym v.0; got = u.1 ∙ sym v.1 }

one_found : (n : ℕ) (all : Locals) (m : Words) (i : ℕ) (a : Local) → IsRunOver a.over a.plan a.history → (d : Due) → due a.plan a.history ≡ d → (e f : Event) (r q : Option Row) (g h : List ℕ) → touch_by a.over e ≡ touch_by a.over f → ComesNext (with_new r a.history a.over) a.plan a.history e
    → ComesNext (with_new q a.history a.over) a.plan a.history f → Finds n all m i a d e r g → Finds n all m i a d f q h → Agree e f r q g h
one_found n all m i a ran (receive k s) at e f r q g h touch x y u v = one_heard all i k s a (letters all s i a) at e f r q g h x y u v
one_found n all m i a ran _ at e f r q g h touch x y u v = silent_one n i m a ran e f r q g h touch x y u v

-- an agent goes on in one way
pub one_goes : (n : ℕ) (w : World) (i : ℕ) (t u : World) → Goes n w i t → Goes n w i u → t ≡ u
one_goes n w i t u x y = at y.before y.at y.run y.event y.row y.got y.next y.finds y.is
  where
    by_same : (b : Local) → b ≡ x.before → (f : Event) (q : Option Row) (h : List ℕ) → ComesNext (with_new q b.history b.over) b.plan b.history f → Finds n w.locals w.words i b (due b.plan b.history) f q h → u ≡ world_after w i b f q h → t ≡ u
    by_same b same f q h next finds left =
        let next : ComesNext (with_new q x.before.history x.before.over) x.before.plan x.before.history f = subst (λ b. ComesNext (with_new q b.history b.over) b.plan b.history f) same next in
        let finds : Finds n w.locals w.words i x.before (due x.before.plan x.before.history) f q h = subst (λ b. Finds n w.locals w.words i b (due b.plan b.history) f q h) same finds in
        let touch = touch_due n w.locals w.words i x.before x.event x.row x.got x.next x.finds ∙ sym (touch_due n w.locals w.words i x.before f q h next finds) in
        let agree = one_found n w.locals w.words i x.before x.run (due x.before.plan x.before.history) refl x.event f x.row q x.got h touch x.next next x.finds finds in
        x.is ∙ ap (λ e. world_after w i x.before e x.row x.got) agree.event ∙ ap (λ r. world_after w i x.before f r x.got) agree.row ∙ ap (λ g. world_after w i x.before f q g) agree.got
        ∙ sym (ap (λ b. world_after w i b f q h) same) ∙ sym left

    at : (b : Local) → slice_get w.locals i ≡ Some b → IsRunOver b.over b.plan b.history → (f : Event) (q : Option Row) (h : List ℕ) → ComesNext (with_new q b.history b.over) b.plan b.history f → Finds n w.locals w.words i b (due b.plan b.history) f q h → u ≡ world_after w i b f q h → t ≡ u
    at b is ran f q h next finds left =
        let same : b ≡ x.before = (let two = sym is ∙ x.at in cc) in
        by_same b same f q h next finds left

-- Where the end has no race, two agents' steps on the way do not clash

-- two next accesses of two agents, each not known to the other, that stand at the end
apart_at_end : (w end : World) (i j : ℕ) (x y : Touched) → (i ≡ j → ⊥) → IsSane w → IsFree end → slice_get (end.lore i).touched (length (w.lore i).touched) ≡ Some x → slice_get (end.lore j).touched (length (w.lore j).touched) ≡ Some y
    → x.knew ≡ (w.lore i).knows → y.knew ≡ (w.lore j).knows → clash x y ≡ true → ⊥
apart_at_end w end i j x y other sane free mine yours knew known clash =
    elim (either (is_known (i, length (w.lore i).touched) y.knew) (is_known (j, length (w.lore j).touched) x.knew) (free i j (length (w.lore i).touched) (length (w.lore j).touched) x y other mine yours clash)) [
      | inl a ↦ (let less = sane.knows j (i, length (w.lore i).touched) (subst (λ k. is_known (i, length (w.lore i).touched) k ≡ true) known a) in omega (arith, less))
      | inr b ↦ (let less = sane.knows i (j, length (w.lore j).touched) (subst (λ k. is_known (j, length (w.lore j).touched) k ≡ true) knew b) in omega (arith, less))
    ]

one_writes : (p a b : Bool) → (p && a) ≡ true → (p && (a || b)) ≡ true
one_writes true true b e = refl
one_writes true false b e = cc
one_writes false a b e = cc

-- nobody else writes the word that an agent's next access is to
word_stays : (n k : ℕ) (v mid end w : World) (i j : ℕ) (t : World) → (j ≡ i → ⊥) → IsSane v → Goes n v j mid → GoFar n k mid end → AreDone end → IsFree end → (x : Goes n w i t) → slice_get v.locals i ≡ slice_get w.locals i → v.lore i ≡ w.lore i
    → (u : Touch) → touch_of n w i t x ≡ Some u → mid.words u.block u.index ≡ v.words u.block u.index
word_stays n k v mid end w i j t other sane y far done free x same lore u is = ap (λ (a : World). a.words u.block u.index) y.is ∙ at (touch_of n v j mid y) refl
  where
    at_end : (m : Words) × (slice_get (end.lore i).touched (length (w.lore i).touched) ≡ Some (touched_by (w.lore i).knows m u))
    at_end = will_stand n k mid end far done w i t x (others n v j mid y i other ∙ same) (lore_other n v j mid y i other ∙ lore) u is

    never : (z : Touch) → touch_of n v j mid y ≡ Some z → (is_over u.block u.index z && changes (change_at v.words z)) ≡ true → ⊥
    never z there both =
        apart_at_end v end j i (touched_by (v.lore j).knows v.words z) (touched_by (w.lore i).knows at_end.0 u) other sane free
        (touched_far n k mid end far j (length (v.lore j).touched) (touched_by (v.lore j).knows v.words z) (stands_there n v j mid y z there))
        (ap (λ (o : Lore). slice_get (end.lore i).touched (length o.touched)) lore ∙ at_end.1) refl (sym (ap (λ (o : Lore). o.knows) lore))
        (one_writes (is_over u.block u.index z) (changes (change_at v.words z)) (changes (change_at at_end.0 u)) both)

    at : (q : Option Touch) → touch_of n v j mid y ≡ q → words_after v.words (touch_of n v j mid y) u.block u.index ≡ v.words u.block u.index
    at None there = ap (λ q. words_after v.words q u.block u.index) there
    at (Some z) there = ap (λ q. words_after v.words q u.block u.index) there ∙ elim (cases_Bool (is_over u.block u.index z && changes (change_at v.words z))) [
      | inl both ↦ absurd (never z there both)
      | inr off ↦ word_kept v.words z u.block u.index off
    ]

abbrev written_over : List Mark → Touch → ℕ → Option Touched
written_over knew t old = Some (record { block = t.block; index = t.index; writes = changes (change_by t.access.edit old); knew = knew })

-- so it stands at the end as it would be made now
stands_so : (n k : ℕ) (v end : World) → GoFar n k v end → AreDone end → IsFree end → IsSane v → (w : World) (i : ℕ) (t : World) (x : Goes n w i t) → slice_get v.locals i ≡ slice_get w.locals i → v.lore i ≡ w.lore i
    → (u : Touch) → touch_of n w i t x ≡ Some u → v.words u.block u.index ≡ w.words u.block u.index → slice_get (end.lore i).touched (length (w.lore i).touched) ≡ Some (touched_by (w.lore i).knows w.words u)
stands_so n zero v end far done free sane w i t x same lore u is word =
    absurd (false≢true (sym (going n w i t x) ∙ done i x.before (ap (λ (v : World). slice_get v.locals i) far ∙ same ∙ x.at)))
stands_so n (suc k) v end (j, mid, y, far) done free sane w i t x same lore u is word = elim (cases_Bool (j == i)) [
  | inl here ↦ stands_later n k v mid end i (subst (λ j. Goes n v j mid) (eqb-true j i here) y) far w t x same lore u is ∙ ap (written_over (w.lore i).knows u) word
  | inr off ↦ (
      let other = eqb-false j i off in
      stands_so n k mid end far done free (sane_after n v j mid sane y) w i t x (others n v j mid y i other ∙ same) (lore_other n v j mid y i other ∙ lore) u is
      (word_stays n k v mid end w i j t other sane y far done free x same lore u is ∙ word))
]

ordered : (n k : ℕ) (w next end : World) (i j : ℕ) (mid : World) → (i ≡ j → ⊥) → IsSane w → (x : Goes n w i mid) → (y : Goes n w j next) → GoFar n k next end → AreDone end → IsFree end → (p q : Option Touch) → touch_of n w i mid x ≡ p → touch_of n w j next y ≡ q
    → clashes w.words p q ≡ true → ⊥
ordered n k w next end i j mid other sane x y far done free None q here there clash = false≢true clash
ordered n k w next end i j mid other sane x y far done free (Some t) None here there clash = false≢true clash
ordered n k w next end i j mid other sane x y far done free (Some t) (Some u) here there clash =
    apart_at_end w end i j (touched_by (w.lore i).knows w.words t) (touched_by (w.lore j).knows w.words u) other sane free
    (stands_so n (suc k) w end (j, next, y, far) done free sane w i mid x refl refl t here refl)
    (touched_far n k next end far j (length (w.lore j).touched) (touched_by (w.lore j).knows w.words u) (stands_there n w j next y u there)) refl refl clash

both_free : (n k : ℕ) (w next end : World) (i j : ℕ) (mid : World) → (i ≡ j → ⊥) → IsSane w → (x : Goes n w i mid) → (y : Goes n w j next) → GoFar n k next end → AreDone end → IsFree end → (v : World) × Goes n mid j v × Goes n next i v
both_free n k w next end i j mid other sane x y far done free = elim (cases_Bool (clashes w.words (touch_of n w i mid x) (touch_of n w j next y))) [
  | inl on ↦ absurd (ordered n k w next end i j mid other sane x y far done free (touch_of n w i mid x) (touch_of n w j next y) refl refl on)
  | inr off ↦ both_go n w i j mid next other sane x y off
]

-- What all steps come to

none_goes : (n : ℕ) (w : World) (i : ℕ) (t : World) → AreDone w → Goes n w i t → ⊥
none_goes n w i t done x = false≢true (sym (going n w i t x) ∙ done i x.before x.at)

same_step : (n : ℕ) (w : World) (i j : ℕ) (next mid : World) → (i == j) ≡ true → Goes n w j next → Goes n w i mid → next ≡ mid
same_step n w i j next mid e y x = one_goes n w i next mid (subst (λ j. Goes n w j next) (sym (eqb-true i j e)) y) x

-- a step that may be taken is one of those that lead to the end, where that has no race
pub on_the_way : (n k : ℕ) (w mid end : World) (i : ℕ) → GoFar n (suc k) w end → AreDone end → IsFree end → IsSane w → Goes n w i mid → GoFar n k mid end
on_the_way n zero w mid end i (j, next, y, far) done free sane x = elim (cases_Bool (i == j)) [
  | inl e ↦ subst (λ t. GoFar n zero t end) (same_step n w i j next mid e y x) far
  | inr e ↦ (let both = both_free n zero w next end i j mid (eqb-false i j e) sane x y far done free in absurd (none_goes n next i both.0 (subst AreDone far done) both.2))
]
on_the_way n (suc k) w mid end i (j, next, y, far) done free sane x = elim (cases_Bool (i == j)) [
  | inl e ↦ subst (λ t. GoFar n (suc k) t end) (same_step n w i j next mid e y x) far
  | inr e ↦ (let both = both_free n (suc k) w next end i j mid (eqb-false i j e) sane x y far done free in (j, both.0, both.1, on_the_way n k next both.0 end i far done free (sane_after n w j next sane y) both.2))
]

pub one_end : (n k m : ℕ) (w t u : World) → GoFar n k w t → GoFar n m w u → AreDone t → AreDone u → IsFree t → IsSane w → t ≡ u
one_end n zero zero w t u x y done over free sane = x ∙ sym y
one_end n zero (suc m) w t u x (i, mid, y, far) done over free sane = absurd (none_goes n w i mid (subst AreDone x done) y)
one_end n (suc k) zero w t u (i, mid, x, far) y done over free sane = absurd (none_goes n w i mid (subst AreDone y over) x)
one_end n (suc k) (suc m) w t u x (i, mid, y, far) done over free sane = one_end n k m mid t u (on_the_way n k w mid t i x done free sane y) far done over free (sane_after n w i mid sane y)
