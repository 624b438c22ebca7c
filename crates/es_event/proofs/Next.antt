-- What may come next: one event, but for what it hears from outside, and some event wherever something is due.
use Rattle.std.proofs.Common.{◌≡◌, ℕ, ◌+◌, cond, ◌-◌, ◌==◌, ◌&&◌, Bool, true, false, sym, ◌∙◌, ap, refl, subst, List, [], ◌∷◌, Option, Some, None, Result, Ok, Err, is_none, ◌≤◌, arith, nat_lt, nat_le, not}
use Rattle.std.specs.Prelude.{slice_get, is_some, nat_lt}
use Rattle.std.specs.Option.{option_map, option_map_or, option_and_then}
use Rattle.std.proofs.lemmas.Bool.{false≢true, and_parts, eq-eqb, and_from, le-leb, leb-true}
use Rattle.es_value.specs.Limits.{most_identities}
use Rattle.es_value.specs.declared.value.Value.{Value}
use Rattle.es_value.specs.declared.value.Value.TheVariants.{Object}
use Rattle.std.specs.List.{list_all}
use Rattle.es_event.specs.declared.row.Row.{Row}
use Rattle.es_event.specs.declared.event.Answer.{Answer}
use Rattle.es_event.specs.declared.event.Event.{Event}
use Rattle.es_event.specs.declared.event.Event.TheVariants.{JobBegun, CleanupBegun, Received, Did, Refused, Emptied, Taken, JobEnded, Skipped, Closed}
use Rattle.es_event.specs.declared.event.Refusal.{Refusal}
use Rattle.es_event.specs.declared.command.Command.{Command}
use Rattle.es_event.specs.declared.command.Command.TheVariants.{Atomic, Collect}
use Rattle.es_event.specs.declared.plan.AgentPlan.{AgentPlan}
use Rattle.es_event.specs.Commands.{reads, opens_words, collects}
use Rattle.es_event.specs.History.{History}
use Rattle.es_event.specs.Identities.{identity, object_of, made, is_there, is_made, is_gone, is_in}
use Rattle.es_event.specs.Jobs.{Receivers, receivers, job, cleaning}
use Rattle.es_event.specs.Registrations.{Cell, cell, Fate, fate, awaiting, same_fate, is_of, registrations, first_awaiting}
use Rattle.es_event.specs.Rows.{row}
use Rattle.es_event.specs.Sharing.{Buffers, row_at, AgreeSoFar}
use Rattle.es_event.specs.Rules.{refusal, answer_at, result, refuse_or, completion, first_refusal}
use Rattle.es_event.specs.Legal.{HasWords, Arrives, Lawful, values_of}
use Rattle.es_event.specs.Order.{Phase, between, handed, inside, stopped, ended, phase, left, catching, queue, Due, begin, receive, run, clean, take_cell, due_after, due_inside, due_job, due_between, due_at, end_job, close, nothing, due}
use Rattle.es_event.specs.declared.literal.Literal.{Literal}
use Rattle.es_event.specs.Report.{refusal_text}
use Rattle.es_event.specs.Follows.{AtCommand, HasRoom, Permits, done_for, refused_now}
use Rattle.es_event.specs.Runs.{ComesNext, heard}
use Rattle.es_event.specs.Heard.{silence, a_message, heard_at, heard_by}
use Rattle.es_event.specs.declared.atomic.Operation.{Operation}
use Rattle.es_event.proofs.Accepted.{is_result}
use Rattle.es_event.proofs.Extending.{agrees_with_itself, agrees_longer, refuses_so}
use Rattle.es_event.proofs.Counting.{found_passes}
use Rattle.es_event.proofs.Entries.{inner}
use Rattle.es_event.proofs.Fates.{awaits, is_same}
use Rattle.es_event.specs.Later.{snapshot, derefed_since, collects_now}
use Rattle.es_event.specs.Late.{AreLate}
use Rattle.es_event.specs.Order.{finish, due_end}
use Rattle.es_event.specs.declared.event.Refusal.TheVariants.{CollectionOpen}
use Rattle.es_event.proofs.Opening.{Since, since_copy}
use Rattle.es_event.proofs.Finishing.{is_open}
use Rattle.es_event.proofs.Late.{the_late, one_late_list}
use Rattle.es_event.proofs.Staying.{made_more}
use Rattle.es_event.proofs.Lists.{all_from_members}
use Rattle.es_event.proofs.Listing.{TheDead, the_dead, one_list, dead_there}

-- One event

same_answer : (o : Result Answer Refusal) (r q : Answer) → o ≡ Ok r → o ≡ Ok q → r ≡ q
same_answer (Ok a) r q e f = cc
same_answer (Err code) r q e f = cc

not_both : (o : Result Answer Refusal) (r : Answer) (a : Refusal) → o ≡ Ok r → o ≡ Err a → ⊥
not_both (Ok q) r a e f = cc
not_both (Err code) r a e f = cc

-- a command that is done
done : (over : Buffers) (into : Receivers) (h : History) (c d : Command) (vs : List Value) (r : Answer) → Lawful over into h (Did (d, vs, r)) → d ≡ c
    → (vs ≡ values_of into h (reads c)) × (completion over h c (values_of into h (reads c)) (heard_by c r) ≡ Ok r) × (collects c ≡ false)
done over into h c d vs r l e =
    let read : vs ≡ values_of into h (reads c) = l.0 ∙ ap (λ c. values_of into h (reads c)) e in
    let gave : completion over h c vs (heard_by c r) ≡ Ok r = subst (λ c. completion over h c vs (heard_by c r) ≡ Ok r) e l.1 in
    (read, subst (λ ws. completion over h c ws (heard_by c r) ≡ Ok r) read gave, subst (λ c. collects c ≡ false) e l.2)

same_done : (c d b : Command) (vs ws : List Value) (r q : Answer) → d ≡ c → b ≡ c → vs ≡ ws → r ≡ q → ◌≡◌ {A = Event} (Did (d, vs, r)) (Did (b, ws, q))
same_done c d b vs ws r q e f g k = ap (λ x. Did (x, vs, r)) (e ∙ sym f) ∙ (ap (λ x. Did (b, x, r)) g ∙ ap (λ x. Did (b, ws, x)) k)

none_refuses : (b : Bool) (code : Refusal) → b ≡ true → first_refusal ((b, CollectionOpen) ∷ []) ≡ Some code → ⊥
none_refuses true code e f = cc
none_refuses false code e f = cc

never_refused : (over : Buffers) (h : History) (c : Command) (vs : List Value) (code : Refusal) → collects_now h c ≡ true → refusal over h c vs ≡ Some code → ⊥
never_refused over h Collect vs code e f = none_refuses (is_none (snapshot h)) code e f
never_refused over h _ vs code e f = cc

now_collects : (h : History) (c : Command) → collects_now h c ≡ true → collects c ≡ true
now_collects h c e = (and_parts (collects c) (is_none (snapshot h)) e).0

-- what is refused is not done
refused_not : (over : Buffers) (h : History) (c : Command) (vs : List Value) (r : Answer) (code : Refusal) → completion over h c vs (heard_by c r) ≡ Ok r → refusal over h c vs ≡ Some code → ⊥
refused_not over h c vs r code e f = not_both (completion over h c vs (heard_by c r)) r code e (ap (λ f. refuse_or f (result over h c vs (heard_by c r))) f)

inner_code : (a b : Refusal) → ◌≡◌ {A = Option Refusal} (Some a) (Some b) → a ≡ b
inner_code a b e = cc

one_done : (over : Buffers) (into : Receivers) (h : History) (c d b : Command) (vs ws : List Value) (r q : Answer) → Lawful over into h (Did (d, vs, r)) → d ≡ c → Lawful over into h (Did (b, ws, q)) → b ≡ c
    → heard (Did (d, vs, r)) ≡ heard (Did (b, ws, q)) → ◌≡◌ {A = Event} (Did (d, vs, r)) (Did (b, ws, q))
one_done over into h c d b vs ws r q l p m o s =
    let x = done over into h c d vs r l p in
    let y = done over into h c b ws q m o in
    let alike : heard_by c r ≡ heard_by c q = ap (λ c. heard_by c r) (sym p) ∙ (s ∙ ap (λ c. heard_by c q) o) in
    same_done c d b vs ws r q p o (x.0 ∙ sym y.0) (same_answer (completion over h c (values_of into h (reads c)) (heard_by c r)) r q x.1 (ap (completion over h c (values_of into h (reads c))) alike ∙ y.1))

-- what is done is the command itself where nothing is caught
uncaught : (o : Option Refusal) (c : Command) → done_for o None c ≡ c
uncaught None c = refl
uncaught (Some code) c = refl

unrefused : (o : Option Refusal) (x : Option (List ℕ)) (c : Command) → ((code : Refusal) → o ≡ Some code → ⊥) → done_for o x c ≡ c
unrefused None x c none = refl
unrefused (Some code) x c none = absurd (none code refl)

-- a command that is not refused is done itself
pub done_itself : (over : Buffers) (into : Receivers) (h : History) (x : Option (List ℕ)) (c : Command) → refused_now over into h c ≡ None → c ≡ done_for (refused_now over into h c) x c
done_itself over into h x c none = ap (λ o. done_for o x c) (sym none)

-- a refusal beside what is done: nothing catches it, so the command itself was done
pub done_beside : (over : Buffers) (into : Receivers) (h : History) (x : Option (List ℕ)) (c d : Command) → x ≡ None → d ≡ done_for (refused_now over into h c) x c → d ≡ c
done_beside over into h x c d none p = p ∙ ap (λ x. done_for (refused_now over into h c) x c) none ∙ uncaught (refused_now over into h c) c

-- what empties is refused nothing
pub empties_beside : (over : Buffers) (into : Receivers) (h : History) (x : Option (List ℕ)) (c d : Command) → collects_now h c ≡ true → d ≡ done_for (refused_now over into h c) x c → d ≡ c
empties_beside over into h x c d now p = p ∙ unrefused (refused_now over into h c) x c (λ code is. never_refused over h c (values_of into h (reads c)) code now is)

one_at_command : (over : Buffers) (into : Receivers) (h : History) (x : Option (List ℕ)) (c : Command) (e f : Event) → Lawful over into h e → AtCommand over into h x c e → Lawful over into h f → AtCommand over into h x c f → heard e ≡ heard f → e ≡ f
one_at_command over into h x c (Did (d, vs, r)) (Did (b, ws, q)) l p m o s = one_done over into h (done_for (refused_now over into h c) x c) d b vs ws r q l p m o s
one_at_command over into h x c (Did (d, vs, r)) (Refused code) l p m o s =
    absurd (refused_not over h c (values_of into h (reads c)) r code (done over into h c d vs r l (done_beside over into h x c d o.0 p)).1 o.1)
one_at_command over into h x c (Did (d, vs, r)) (Emptied ids) l p m o s =
    absurd (false≢true (sym (done over into h c d vs r l (empties_beside over into h x c d o.0 p)).2 ∙ now_collects h c o.0))
one_at_command over into h x c (Refused code) (Did (b, ws, q)) l p m o s =
    absurd (refused_not over h c (values_of into h (reads c)) q code (done over into h c b ws q m (done_beside over into h x c b p.0 o)).1 p.1)
one_at_command over into h x c (Refused a) (Refused b) l p m o s = ap Refused (inner_code a b (sym p.1 ∙ o.1))
one_at_command over into h x c (Refused code) (Emptied ids) l p m o s = absurd (never_refused over h c (values_of into h (reads c)) code o.0 p.1)
one_at_command over into h x c (Emptied ids) (Did (b, ws, q)) l p m o s =
    absurd (false≢true (sym (done over into h c b ws q m (empties_beside over into h x c b p.0 o)).2 ∙ now_collects h c p.0))
one_at_command over into h x c (Emptied ids) (Refused code) l p m o s = absurd (never_refused over h c (values_of into h (reads c)) code p.0 o.1)
one_at_command over into h x c (Emptied ids) (Emptied jds) l p m o s = ap Emptied (one_list into h ids jds p.1 o.1 l.1 m.1)
one_at_command over into h x c (Did (d, vs, r)) _ l p m o s = absurd o
one_at_command over into h x c (Refused code) _ l p m o s = absurd o
one_at_command over into h x c (Emptied ids) _ l p m o s = absurd o
one_at_command over into h x c _ f l p m o s = absurd p

-- a message, a skip, or a refusal
a_message_of : (v w : Value) → a_message v ≡ a_message w → v ≡ w
a_message_of v w e = cc

one_at_receive : (over : Buffers) (into : Receivers) (h : History) (n t : ℕ) (e f : Event) → Permits over into h (receive n t) e → Permits over into h (receive n t) f → heard e ≡ heard f → e ≡ f
one_at_receive over into h n t (Received a v) (Received b w) p o s = ap (λ a. Received a v) (p.0 ∙ sym o.0) ∙ ap (Received b) (a_message_of v w s)
one_at_receive over into h n t (Received a v) (Skipped j b) p o s = cc
one_at_receive over into h n t (Received a v) (Refused code) p o s = cc
one_at_receive over into h n t (Skipped j a) (Received b w) p o s = cc
one_at_receive over into h n t (Skipped j a) (Skipped k b) p o s = ap (λ j. Skipped j a) (p.0 ∙ sym o.0) ∙ ap (Skipped k) (p.1 ∙ sym o.1)
one_at_receive over into h n t (Skipped j a) (Refused code) p o s = cc
one_at_receive over into h n t (Refused code) (Received b w) p o s = cc
one_at_receive over into h n t (Refused code) (Skipped k b) p o s = cc
one_at_receive over into h n t (Refused a) (Refused b) p o s = ap Refused (p.0 ∙ sym o.0)
one_at_receive over into h n t (Received a v) _ p o s = absurd o
one_at_receive over into h n t (Skipped j a) _ p o s = absurd o
one_at_receive over into h n t (Refused a) _ p o s = absurd o
one_at_receive over into h n t _ f p o s = absurd p

pub begins : (over : Buffers) (into : Receivers) (h : History) (n : ℕ) (e : Event) → Permits over into h (begin n) e → e ≡ JobBegun n
begins over into h n (JobBegun j) p = ap JobBegun p
begins over into h n _ p = absurd p

pub cleans_next : (over : Buffers) (into : Receivers) (h : History) (r : ℕ) (e : Event) → Permits over into h (clean r) e → e ≡ CleanupBegun r
cleans_next over into h r (CleanupBegun q) p = ap CleanupBegun p
cleans_next over into h r _ p = absurd p

-- a cell that is taken, with the value that it held
pub record Takes (h : History) (n : ℕ) (e : Event) : Type 0 where
  pub held : Value
  pub is : e ≡ Taken n held
  pub held_is : option_map (λ c. c.held) (cell h n) ≡ Some held
  pub awaited : fate h n ≡ awaiting

pub takes_next : (over : Buffers) (into : Receivers) (h : History) (n : ℕ) (e : Event) → Lawful over into h e → Permits over into h (take_cell n) e → Takes h n e
takes_next over into h n (Taken m v) l p = record {
  held = v;
  is = ap (λ k. Taken k v) p;
  held_is = subst (λ k. option_map (λ c. c.held) (cell h k) ≡ Some v) p l.0;
  awaited = subst (λ k. fate h k ≡ awaiting) p l.1;
}
takes_next over into h n _ l p = absurd p

pub ends : (over : Buffers) (into : Receivers) (h : History) (e : Event) → Permits over into h end_job e → e ≡ JobEnded
ends over into h JobEnded p = refl
ends over into h _ p = absurd p

pub closes : (over : Buffers) (into : Receivers) (h : History) (e : Event) → Permits over into h close e → e ≡ Closed
closes over into h Closed p = refl
closes over into h _ p = absurd p

one_finish : (over : Buffers) (into : Receivers) (h p : History) (e f : Event) → Lawful over into h e → Permits over into h (finish p) e → Lawful over into h f → Permits over into h (finish p) f → e ≡ f
one_finish over into h p (Emptied ids) (Emptied jds) l a m b = ap Emptied (one_late_list into p (derefed_since h) ids jds a b l.1 m.1)
one_finish over into h p (Emptied ids) _ l a m b = absurd b
one_finish over into h p _ f l a m b = absurd a

one_at : (over : Buffers) (into : Receivers) (h : History) (d : Due) (e f : Event) → Lawful over into h e → Permits over into h d e → Lawful over into h f → Permits over into h d f → heard e ≡ heard f → e ≡ f
one_at over into h (begin n) e f l p m o s = begins over into h n e p ∙ sym (begins over into h n f o)
one_at over into h (receive n t) e f l p m o s = one_at_receive over into h n t e f p o s
one_at over into h (run x c) e f l p m o s = one_at_command over into h x c e f l p m o s
one_at over into h (clean r) e f l p m o s = cleans_next over into h r e p ∙ sym (cleans_next over into h r f o)
one_at over into h (take_cell n) e f l p m o s =
    let a : Takes h n e = takes_next over into h n e l p in
    let b : Takes h n f = takes_next over into h n f m o in
    a.is ∙ (ap (Taken n) (inner (sym a.held_is ∙ b.held_is)) ∙ sym b.is)
one_at over into h (finish q) e f l p m o s = one_finish over into h q e f l p m o
one_at over into h end_job e f l p m o s = ends over into h e p ∙ sym (ends over into h f o)
one_at over into h close e f l p m o s = closes over into h e p ∙ sym (closes over into h f o)
one_at over into h nothing e f l p m o s = absurd p

pub one_next : (over : Buffers) (plan : AgentPlan) (h : History) (e f : Event) → ComesNext over plan h e → ComesNext over plan h f → heard e ≡ heard f → e ≡ f
one_next over plan h e f a b s = one_at over (receivers plan.jobs) h (due plan h) e f a.0 a.1 b.0 b.1 s

-- Some event

-- over a table that says the same so far
pub record SomeAt (over : Buffers) (into : Receivers) (h : History) (d : Due) : Type 0 where
  pub more : Buffers
  pub agrees : AgreeSoFar h over more
  pub event : Event
  pub lawful : Lawful more into h event
  pub permitted : Permits more into h d event

at_hand : (over : Buffers) (into : Receivers) (h : History) (d : Due) (e : Event) → Lawful over into h e → Permits over into h d e → SomeAt over into h d
at_hand over into h d e l p = record { more = over; agrees = agrees_with_itself h over; event = e; lawful = l; permitted = p }

-- a table that has the block that a command opens
abbrev with_block : Buffers → History → Option ℕ → Buffers
with_block over h None = over
with_block over h (Some n) = (made h + 1, row 0 0 n) ∷ over

block_agrees : (over : Buffers) (h : History) (n : Option ℕ) → AgreeSoFar h over (with_block over h n)
block_agrees over h None = agrees_with_itself h over
block_agrees over h (Some n) = agrees_longer h over (row 0 0 n)

block_there : (over : Buffers) (h : History) (n : Option ℕ) → HasWords (with_block over h n) (made h + 1) n
block_there over h None = tt
block_there over h (Some n) = ap (λ b. option_map (λ r. r.words) (cond b (Some (row 0 0 n)) (row_at over (made h + 1)))) (eq-eqb (made h + 1) (made h + 1) refl)

-- what is answered where nothing was heard is answered where the answer itself was
given_itself : (o : Operation) (r : Answer) → answer_at o silence ≡ r → answer_at o (heard_at o r) ≡ answer_at o silence
given_itself (Operation.Store n) r is = refl
given_itself (Operation.Wait to n) r is = ap (λ r. answer_at (Operation.Wait to n) (heard_at (Operation.Wait to n) r)) (sym is)
given_itself (Operation.Notify to c) r is = ap (λ r. answer_at (Operation.Notify to c) (heard_at (Operation.Notify to c) r)) (sym is)
given_itself (Operation.Load to) r is = ap (λ r. answer_at (Operation.Load to) (heard_at (Operation.Load to) r)) (sym is)
given_itself (Operation.Modify to how n) r is = ap (λ r. answer_at (Operation.Modify to how n) (heard_at (Operation.Modify to how n) r)) (sym is)
given_itself (Operation.CompareExchange to e n) r is = ap (λ r. answer_at (Operation.CompareExchange to e n) (heard_at (Operation.CompareExchange to e n) r)) (sym is)

pub its_own_word : (over : Buffers) (h : History) (c : Command) (vs : List Value) (r : Answer) → completion over h c vs silence ≡ Ok r → completion over h c vs (heard_by c r) ≡ Ok r
its_own_word over h (Atomic a) vs r e = ap (refuse_or (refusal over h (Atomic a) vs)) (given_itself a.operation r (is_result over h (Atomic a) vs silence r e)) ∙ e
its_own_word over h _ vs r e = e

-- a refusal, or where it is caught the assignment of its text
refusing : (over more : Buffers) (into : Receivers) (h : History) (x : Option (List ℕ)) (c : Command) (code : Refusal) → AgreeSoFar h over more → refused_now more into h c ≡ Some code → SomeAt over into h (run x c)
refusing over more into h None c code agrees is = record { more = more; agrees = agrees; event = Refused code; lawful = tt; permitted = (refl, is) }
refusing over more into h (Some x) c code agrees is = record {
  more = more;
  agrees = agrees;
  event = Did (Command.Let x (Literal.Text (refusal_text code)), [], Answer.Gives (Value.Text (refusal_text code)));
  lawful = (refl, refl, refl, tt);
  permitted = ap (λ o. done_for o (Some x) c) (sym is);
}

answered : (over : Buffers) (into : Receivers) (h : History) (x : Option (List ℕ)) (c : Command) → collects c ≡ false → (o : Result Answer Refusal)
    → completion (with_block over h (opens_words c)) h c (values_of into h (reads c)) silence ≡ o → SomeAt over into h (run x c)
answered over into h x c e (Ok r) is = record {
  more = with_block over h (opens_words c);
  agrees = block_agrees over h (opens_words c);
  event = Did (c, values_of into h (reads c), r);
  lawful = (refl, its_own_word (with_block over h (opens_words c)) h c (values_of into h (reads c)) r is, e, block_there over h (opens_words c));
  permitted = sym (unrefused (refused_now (with_block over h (opens_words c)) into h c) x c (λ code refused. refused_not (with_block over h (opens_words c)) h c (values_of into h (reads c)) r code (its_own_word (with_block over h (opens_words c)) h c (values_of into h (reads c)) r is) refused));
}
answered over into h x c e (Err code) is =
    refusing over (with_block over h (opens_words c)) into h x c code (block_agrees over h (opens_words c))
    (refuses_so (refusal (with_block over h (opens_words c)) h c (values_of into h (reads c))) _ code is)

emptied : (over : Buffers) (into : Receivers) (h : History) (x : Option (List ℕ)) (c : Command) → collects_now h c ≡ true → SomeAt over into h (run x c)
emptied over into h x c e =
    let all : TheDead into h = the_dead into h in
    at_hand over into h (run x c) (Emptied all.list) (dead_there into h all.list all.dead, all.rising) (e, all.dead)

-- a collection that is refused, as a later one is open
refused_open : (b : Bool) → b ≡ false → first_refusal ((b, CollectionOpen) ∷ []) ≡ Some CollectionOpen
refused_open true e = cc
refused_open false e = refl

open_refuses : (over : Buffers) (into : Receivers) (h : History) (x : Option (List ℕ)) (c : Command) → collects c ≡ true → is_none (snapshot h) ≡ false → SomeAt over into h (run x c)
open_refuses over into h x Collect e f = refusing over over into h x Collect CollectionOpen (λ o l. refl) (refused_open (is_none (snapshot h)) f)
open_refuses over into h x _ e f = cc

collecting : (over : Buffers) (into : Receivers) (h : History) (x : Option (List ℕ)) (c : Command) (b : Bool) → collects c ≡ true → is_none (snapshot h) ≡ b → SomeAt over into h (run x c)
collecting over into h x c true e f = emptied over into h x c (and_from (collects c) (is_none (snapshot h)) e f)
collecting over into h x c false e f = open_refuses over into h x c e f

at_command : (over : Buffers) (into : Receivers) (h : History) (x : Option (List ℕ)) (c : Command) (b : Bool) → collects c ≡ b → SomeAt over into h (run x c)
at_command over into h x c true e = collecting over into h x c (is_none (snapshot h)) e refl
at_command over into h x c false e = answered over into h x c e (completion (with_block over h (opens_words c)) h c (values_of into h (reads c)) silence) refl

awaiting_held : (h : History) (n : ℕ) → fate h n ≡ awaiting → (v : Value) × (option_map (λ c. c.held) (cell h n) ≡ Some v)
awaiting_held h n e = let found = awaits h n e in (found.0.held, ap (option_map (λ c. c.held)) found.1.is)

-- a cell that is due to be taken awaits that
abbrev IsReady : History → Due → Type 0
IsReady h d = (n : ℕ) → d ≡ take_cell n → fate h n ≡ awaiting

-- what is late is there yet, as nothing was emptied since
late_there : (into : Receivers) (h p : History) (more s : List ℕ) → Since h p → AreLate into p more s → list_all (is_there h) s ≡ true
late_there into h p more s since late = all_from_members (is_there h) s (λ i e.
    let l = (late.only i e).there in
    let parts = and_parts (is_made p i) (not (is_gone p i)) l in
    let bounds = and_parts (nat_lt 0 i) (nat_le i (made p)) parts.0 in
    let grown : made p ≤ made h = rw since.whole (made_more since.later p) in
    and_from (is_made h i) (not (is_gone h i)) (and_from (nat_lt 0 i) (nat_le i (made h)) bounds.0 (le-leb i (made h) (omega (arith, leb-true i (made p) bounds.1, grown)))) (ap (λ g. not (is_in g i)) since.still ∙ parts.1))

finished : (over : Buffers) (into : Receivers) (h p : History) → snapshot h ≡ Some p → SomeAt over into h (finish p)
finished over into h p is =
    let all = the_late into p (derefed_since h) in
    at_hand over into h (finish p) (Emptied all.0) (late_there into h p (derefed_since h) all.0 (since_copy h p is) all.1, all.2) all.1

some_at : (over : Buffers) (into : Receivers) (h : History) (d : Due) → IsReady h d → ((p : History) → d ≡ finish p → snapshot h ≡ Some p) → (d ≡ nothing → ⊥) → SomeAt over into h d
some_at over into h (begin n) ready is_at on = at_hand over into h (begin n) (JobBegun n) tt refl
some_at over into h (receive n t) ready is_at on = at_hand over into h (receive n t) (Skipped n t) tt (refl, refl)
some_at over into h (run x c) ready is_at on = at_command over into h x c (collects c) refl
some_at over into h (clean r) ready is_at on = at_hand over into h (clean r) (CleanupBegun r) tt refl
some_at over into h (take_cell n) ready is_at on =
    let waits = ready n refl in
    let held = awaiting_held h n waits in
    at_hand over into h (take_cell n) (Taken n held.0) (held.1, waits) refl
some_at over into h (finish p) ready is_at on = finished over into h p (is_at p refl)
some_at over into h end_job ready is_at on = at_hand over into h end_job JobEnded tt tt
some_at over into h close ready is_at on = at_hand over into h close Closed tt tt
some_at over into h nothing ready is_at on = absurd (on refl)

is_of_awaiting : (o : Option Cell) (r : ℕ) (f : Fate) → (option_map_or (λ c. c.registry == r) o false && same_fate f awaiting) ≡ true → f ≡ awaiting
is_of_awaiting o r f e = is_same f (and_parts (option_map_or (λ c. c.registry == r) o false) (same_fate f awaiting) e).1

first_awaits : (h : History) (q : Option ℕ) (n : ℕ) → option_and_then (first_awaiting h) q ≡ Some n → fate h n ≡ awaiting
first_awaits h None n e = cc
first_awaits h (Some r) n e = is_of_awaiting (cell h n) r (fate h n) (found_passes (is_of h r awaiting) (registrations h) n e)

end_ready : (o : Option History) (n : ℕ) → due_end o ≡ take_cell n → ⊥
end_ready None n e = cc
end_ready (Some p) n e = cc

ready_after : (h : History) (o : Option ℕ) → ((n : ℕ) → o ≡ Some n → fate h n ≡ awaiting) → IsReady h (due_after h o)
ready_after h None first n e = absurd (end_ready (snapshot h) n e)
ready_after h (Some m) first n e = let same : m ≡ n = cc in first n (ap Some same)

ready_inside : (h : History) (x : Option (List ℕ)) (cs : List Command) → IsReady h (due_inside h x cs)
ready_inside h x [] n e = ready_after h (option_and_then (first_awaiting h) (cleaning h)) (λ m is. first_awaits h (cleaning h) m is) n e
ready_inside h x (c ∷ cs) n e = cc

ready_job : (h : History) (k : ℕ) (at : Option (Option (ℕ × List ℕ))) → IsReady h (due_job k at)
ready_job h k None n e = cc
ready_job h k (Some None) n e = cc
ready_job h k (Some (Some on)) n e = cc

ready_between : (plan : AgentPlan) (h : History) (rs : List ℕ) → IsReady h (due_between plan h rs)
ready_between plan h [] n e = ready_job h (job h) (option_map (λ j. j.on) (slice_get plan.jobs (job h - 1))) n e
ready_between plan h (r ∷ rs) n e = cc

ready_at : (plan : AgentPlan) (h : History) (at : Phase) → IsReady h (due_at plan h at)
ready_at plan h between n e = ready_between plan h (queue h) n e
ready_at plan h handed n e = cc
ready_at plan h inside n e = ready_inside h (catching plan h) (left plan h) n e
ready_at plan h stopped n e = absurd (end_ready (snapshot h) n e)
ready_at plan h ended n e = cc

ready : (plan : AgentPlan) (h : History) → IsReady h (due plan h)
ready plan h = ready_at plan h (phase h)

pub some_next : (over : Buffers) (plan : AgentPlan) (h : History) → (due plan h ≡ nothing → ⊥) → SomeAt over (receivers plan.jobs) h (due plan h)
some_next over plan h on = some_at over (receivers plan.jobs) h (due plan h) (ready plan h) (is_open plan h) on

-- A message

arrives_plain : (over : Buffers) (h : History) (v : Value) → identity v ≡ None → Arrives over h v
arrives_plain over h (Object o) e = cc
arrives_plain over h v e = e

no_object : (v : Value) → identity v ≡ None → object_of v ≡ None
no_object (Object o) e = cc
no_object _ e = refl

pub may_be_received : (over : Buffers) (plan : AgentPlan) (h : History) (job sender : ℕ) → due plan h ≡ receive job sender → (v : Value) → identity v ≡ None → ComesNext over plan h (Received sender v)
may_be_received over plan h job sender at v e = (
  arrives_plain over h v e,
  subst (λ d. Permits over (receivers plan.jobs) h d (Received sender v)) (sym at) (refl, subst (HasRoom h) (sym (no_object v e)) tt),
)

pub may_be_new : (over : Buffers) (plan : AgentPlan) (h : History) (job sender : ℕ) → due plan h ≡ receive job sender → (r : Row) → nat_lt (made h) most_identities ≡ true
    → ComesNext ((made h + 1, r) ∷ over) plan h (Received sender (Object (made h + 1)))
may_be_new over plan h job sender at r room = (
  (refl, ap (λ b. is_some (cond b (Some r) (row_at over (made h + 1)))) (eq-eqb (made h + 1) (made h + 1) refl)),
  subst (λ d. Permits ((made h + 1, r) ∷ over) (receivers plan.jobs) h d (Received sender (Object (made h + 1)))) (sym at) (refl, room),
)
