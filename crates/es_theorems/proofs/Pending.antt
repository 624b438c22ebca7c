-- An agent's next access is settled by what it is: it makes that one whenever it goes on.
use Rattle.std.proofs.Common.{◌≡◌, ℕ, zero, suc, ◌==◌, true, sym, ◌∙◌, ap, refl, subst, List, ◌++◌, length, Option, Some, None, inl, inr}
use Rattle.std.specs.Prelude.{slice_get}
use Rattle.std.proofs.lemmas.Bool.{cases_Bool, eqb-false, eqb-true, false≢true}
use Rattle.es_value.specs.declared.value.Value.{Value}
use Rattle.es_event.specs.declared.command.Command.{Command}
use Rattle.es_event.specs.declared.command.Command.TheVariants.{Atomic}
use Rattle.es_event.specs.declared.event.Answer.{Answer}
use Rattle.es_event.specs.declared.event.Event.{Event}
use Rattle.es_event.specs.declared.event.Event.TheVariants.{JobBegun, CleanupBegun, Received, Did, Refused, Emptied, Taken, JobEnded, Skipped, Closed}
use Rattle.es_event.specs.declared.event.Refusal.{Refusal}
use Rattle.es_event.specs.declared.row.Row.{Row}
use Rattle.es_event.specs.Commands.{reads}
use Rattle.es_event.specs.Follows.{AtCommand, Permits, done_for, refused_now}
use Rattle.es_event.specs.History.{History}
use Rattle.es_event.specs.Jobs.{Receivers, receivers}
use Rattle.es_event.specs.Later.{collects_now}
use Rattle.es_event.specs.Heard.{heard_by}
use Rattle.es_event.specs.Legal.{Lawful, values_of}
use Rattle.es_event.specs.Order.{Due, begin, receive, run, clean, take_cell, finish, end_job, close, due, RunsNow}
use Rattle.es_event.specs.Rules.{refusal}
use Rattle.es_event.specs.Runs.{ComesNext}
use Rattle.es_event.specs.Sharing.{Buffers}
use Rattle.es_event.proofs.Accepted.{is_accepted}
use Rattle.es_theorems.specs.Alone.{AreDone, Finds, GoFar, Goes, Local, Locals, Lore, Touch, Words, World, opened_row, touch_by, touch_with, touched_by, touched_now, with_new}
use Rattle.es_theorems.proofs.Beyond.{going, others, touch_of}
use Rattle.es_theorems.proofs.Touching.{get_last, lore_mine, lore_other, touched_far}

-- What is due

abbrev pub if_none : Option Refusal → Option Touch → Option Touch
if_none None t = t
if_none (Some code) t = None

-- the access that the due command is, if it is not refused
abbrev pub command_touch : Buffers → Receivers → History → Command → Option Touch
command_touch over into h (Atomic c) = if_none (refusal over h (Atomic c) (values_of into h (reads (Atomic c)))) (touch_with over (Atomic c) (values_of into h (reads (Atomic c))))
command_touch over into h _ = None

abbrev pub due_touch : Buffers → Receivers → History → Due → Option Touch
due_touch over into h (run x c) = command_touch over into h c
due_touch over into h _ = None

did_touch : (n i : ℕ) (over : Buffers) (r : Option Row) (into : Receivers) (h : History) (c : Command) (vs : List Value) (a : Answer) → r ≡ opened_row n i h (Did (c, vs, a)) → Lawful (with_new r h over) into h (Did (c, vs, a)) → touch_by over (Did (c, vs, a)) ≡ command_touch over into h c
did_touch n i over r into h (Atomic c) vs a rows l =
    let here : Lawful over into h (Did (Atomic c, vs, a)) = subst (λ r. Lawful (with_new r h over) into h (Did (Atomic c, vs, a))) rows l in
    let free : refusal over h (Atomic c) vs ≡ None = is_accepted over h (Atomic c) vs (heard_by (Atomic c) a) a here.1 in
    ap (touch_with over (Atomic c)) here.0
    ∙ sym (ap (λ o. if_none o (touch_with over (Atomic c) (values_of into h (reads (Atomic c))))) (ap (refusal over h (Atomic c)) (sym here.0) ∙ free))
did_touch n i over r into h _ vs a rows l = refl

refused_touch : (over : Buffers) (into : Receivers) (h : History) (c : Command) (code : Refusal) → refusal over h c (values_of into h (reads c)) ≡ Some code → None ≡ command_touch over into h c
refused_touch over into h (Atomic c) code is = sym (ap (λ o. if_none o (touch_with over (Atomic c) (values_of into h (reads (Atomic c))))) is)
refused_touch over into h _ code is = refl

emptied_touch : (over : Buffers) (into : Receivers) (h : History) (c : Command) → collects_now h c ≡ true → None ≡ command_touch over into h c
emptied_touch over into h (Atomic c) is = absurd (false≢true is)
emptied_touch over into h _ is = refl

at_command : (n i : ℕ) (over : Buffers) (r : Option Row) (into : Receivers) (h : History) (x : Option (List ℕ)) (c : Command) (e : Event) → r ≡ opened_row n i h e → Lawful (with_new r h over) into h e → AtCommand (with_new r h over) into h x c e → touch_by over e ≡ command_touch over into h c
at_command n i over r into h x c (Did (d, vs, a)) rows l p = by_refusal (refused_now (with_new r h over) into h c) x refl p
  where
    rows_of : (k : Command) → d ≡ k → r ≡ opened_row n i h (Did (k, vs, a))
    rows_of k same = rows ∙ ap (λ d. opened_row n i h (Did (d, vs, a))) same

    itself : d ≡ c → touch_by over (Did (d, vs, a)) ≡ command_touch over into h c
    itself same = ap (λ d. touch_by over (Did (d, vs, a))) same ∙ did_touch n i over r into h c vs a (rows_of c same) (subst (λ d. Lawful (with_new r h over) into h (Did (d, vs, a))) same l)

    by_refusal : (o : Option Refusal) (x : Option (List ℕ)) → refused_now (with_new r h over) into h c ≡ o → d ≡ done_for o x c → touch_by over (Did (d, vs, a)) ≡ command_touch over into h c
    by_refusal None x is p = itself p
    by_refusal (Some code) None is p = itself p
    by_refusal (Some code) (Some y) is p =
        ap (λ d. touch_by over (Did (d, vs, a))) p
        ∙ refused_touch over into h c code (subst (λ r. refused_now (with_new r h over) into h c ≡ Some code) (rows_of (done_for (Some code) (Some y) c) p) is)
at_command n i over r into h x c (Refused code) rows l p = refused_touch over into h c code (subst (λ r. refused_now (with_new r h over) into h c ≡ Some code) rows p.1)
at_command n i over r into h x c (Emptied ids) rows l p = emptied_touch over into h c p.0
at_command n i over r into h x c _ rows l p = absurd p

at_due : (n i : ℕ) (over : Buffers) (r : Option Row) (into : Receivers) (h : History) (d : Due) (e : Event) → ((c : Command) → RunsNow d c → r ≡ opened_row n i h e) → Lawful (with_new r h over) into h e → Permits (with_new r h over) into h d e → touch_by over e ≡ due_touch over into h d
at_due n i over r into h (run x c) e rows l p = at_command n i over r into h x c e (rows c (x, refl)) l p
at_due n i over r into h (receive k s) (Received t v) rows l p = refl
at_due n i over r into h (receive k s) (Skipped j t) rows l p = refl
at_due n i over r into h (receive k s) (Refused code) rows l p = refl
at_due n i over r into h (begin k) (JobBegun j) rows l p = refl
at_due n i over r into h (clean k) (CleanupBegun q) rows l p = refl
at_due n i over r into h (take_cell k) (Taken j v) rows l p = refl
at_due n i over r into h (finish k) (Emptied ids) rows l p = refl
at_due n i over r into h end_job JobEnded rows l p = refl
at_due n i over r into h close Closed rows l p = refl
at_due n i over r into h _ e rows l p = absurd p

found_row : (n : ℕ) (all : Locals) (m : Words) (i : ℕ) (a : Local) (d : Due) (e : Event) (r : Option Row) (got : List ℕ) → Finds n all m i a d e r got → (c : Command) → RunsNow d c → r ≡ opened_row n i a.history e
found_row n all m i a (run x k) e r got f c is = f.0
found_row n all m i a _ e r got f c is = let clash = is.1 in cc

pub touch_due : (n : ℕ) (all : Locals) (m : Words) (i : ℕ) (a : Local) (e : Event) (r : Option Row) (got : List ℕ) → ComesNext (with_new r a.history a.over) a.plan a.history e → Finds n all m i a (due a.plan a.history) e r got
    → touch_by a.over e ≡ due_touch a.over (receivers a.plan.jobs) a.history (due a.plan a.history)
touch_due n all m i a e r got next f = at_due n i a.over r (receivers a.plan.jobs) a.history (due a.plan a.history) e (found_row n all m i a (due a.plan a.history) e r got f) next.0 next.1

-- Two steps of an agent that has not changed between them make one access

same_touch : (n : ℕ) (w : World) (i : ℕ) (t : World) (x : Goes n w i t) (v u : World) (y : Goes n v i u) → slice_get v.locals i ≡ slice_get w.locals i → touch_of n v i u y ≡ touch_of n w i t x
same_touch n w i t x v u y same =
    let one : y.before ≡ x.before = (let two = sym y.at ∙ (same ∙ x.at) in cc) in
    touch_due n v.locals v.words i y.before y.event y.row y.got y.next y.finds
    ∙ ap (λ (a : Local). due_touch a.over (receivers a.plan.jobs) a.history (due a.plan a.history)) one
    ∙ sym (touch_due n w.locals w.words i x.before x.event x.row x.got x.next x.finds)

-- a step's access stands where it is made
pub stands_there : (n : ℕ) (w : World) (i : ℕ) (t : World) (x : Goes n w i t) (u : Touch) → touch_of n w i t x ≡ Some u → slice_get (t.lore i).touched (length (w.lore i).touched) ≡ Some (touched_by (w.lore i).knows w.words u)
stands_there n w i t x u is =
    ap (λ (o : Lore). slice_get o.touched (length (w.lore i).touched)) (lore_mine n w i t x)
    ∙ ap (λ q. slice_get ((w.lore i).touched ++ touched_now (w.lore i).knows w.words q) (length (w.lore i).touched)) is
    ∙ get_last (w.lore i).touched (touched_by (w.lore i).knows w.words u)

-- and so does that of a later step, where the agent has not changed between them
pub stands_later : (n k : ℕ) (v mid end : World) (i : ℕ) → Goes n v i mid → GoFar n k mid end → (w t : World) (x : Goes n w i t) → slice_get v.locals i ≡ slice_get w.locals i → v.lore i ≡ w.lore i → (u : Touch) → touch_of n w i t x ≡ Some u
    → slice_get (end.lore i).touched (length (w.lore i).touched) ≡ Some (touched_by (w.lore i).knows v.words u)
stands_later n k v mid end i z far w t x same lore u is =
    touched_far n k mid end far i (length (w.lore i).touched) (touched_by (w.lore i).knows v.words u)
    (subst (λ (o : Lore). slice_get (mid.lore i).touched (length o.touched) ≡ Some (touched_by o.knows v.words u)) lore (stands_there n v i mid z u (same_touch n w i t x v mid z same ∙ is)))

-- the access that an agent may make next it makes on the way to the end, over some word, knowing what it knows now
pub will_stand : (n k : ℕ) (v end : World) → GoFar n k v end → AreDone end → (w : World) (i : ℕ) (t : World) (x : Goes n w i t) → slice_get v.locals i ≡ slice_get w.locals i → v.lore i ≡ w.lore i → (u : Touch) → touch_of n w i t x ≡ Some u
    → (m : Words) × (slice_get (end.lore i).touched (length (w.lore i).touched) ≡ Some (touched_by (w.lore i).knows m u))
will_stand n zero v end far done w i t x same lore u is =
    absurd (false≢true (sym (going n w i t x) ∙ done i x.before (ap (λ (v : World). slice_get v.locals i) far ∙ same ∙ x.at)))
will_stand n (suc k) v end (j, mid, y, far) done w i t x same lore u is = elim (cases_Bool (j == i)) [
  | inl here ↦ (v.words, stands_later n k v mid end i (subst (λ j. Goes n v j mid) (eqb-true j i here) y) far w t x same lore u is)
  | inr off ↦ (
      let other = eqb-false j i off in
      will_stand n k mid end far done w i t x (others n v j mid y i other ∙ same) (lore_other n v j mid y i other ∙ lore) u is)
]
