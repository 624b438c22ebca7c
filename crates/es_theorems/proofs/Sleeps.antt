-- An agent asks to sleep at a word exactly where the one deed of its next event finds another word there, or ends that sleep.
use Rattle.std.proofs.Common.{◌≡◌, ◌⊎◌, cond, inl, inr, ℕ, ◌==◌, ◌&&◌, not, Bool, true, false, sym, ◌∙◌, ap, refl, subst, eqb-true, List, [], ◌∷◌, Option, Some, None}
use Rattle.std.specs.Prelude.{ℤ, pos, is_some, unsigned_abs}
use Rattle.std.specs.Option.{option_and_then, option_map, option_map_or}
use Rattle.std.proofs.lemmas.Bool.{and_parts, false≢true, not-true, or_parts}
use Rattle.es_value.specs.declared.value.Value.{Value}
use Rattle.es_value.specs.declared.value.Value.TheVariants.{Object}
use Rattle.es_event.specs.declared.access.Change.{Change}
use Rattle.es_event.specs.declared.access.Task.{Task}
use Rattle.es_event.specs.declared.access.WaitResult.{WaitResult}
use Rattle.es_event.specs.declared.atomic.AtomicParts.{AtomicParts}
use Rattle.es_event.specs.declared.command.Command.{Command}
use Rattle.es_event.specs.declared.command.Command.TheVariants.{Atomic}
use Rattle.es_event.specs.declared.event.Answer.{Answer}
use Rattle.es_event.specs.declared.event.Event.{Event}
use Rattle.es_event.specs.declared.event.Event.TheVariants.{Did, Refused}
use Rattle.es_event.specs.declared.event.Refusal.{Refusal}
use Rattle.es_event.specs.declared.ledger_event.LedgerEvent.{LedgerEvent}
use Rattle.es_event.specs.declared.ledger_event.LedgerEvent.TheVariants.{Accessed}
use Rattle.es_event.specs.declared.row.Row.{Row}
use Rattle.es_event.specs.Access.{is_same_change}
use Rattle.es_event.specs.Commands.{first, reads, second}
use Rattle.es_event.specs.Follows.{Permits, done_for, refused_now}
use Rattle.es_event.specs.Heard.{heard_by, wait_given}
use Rattle.es_event.specs.Identities.{object_of}
use Rattle.es_event.specs.Jobs.{receivers}
use Rattle.es_event.specs.Ledger.{Ledger, holder_of, waits, word}
use Rattle.es_event.specs.Legal.{values_of}
use Rattle.es_event.specs.LegalLedger.{LegalSoFar, MayCome, Reaches}
use Rattle.es_event.specs.Numbers.{index_of, task_of}
use Rattle.es_event.specs.Order.{Due, run, due}
use Rattle.es_event.specs.Rules.{refusal}
use Rattle.es_event.specs.Runs.{IsRunOver}
use Rattle.es_event.specs.Sharing.{row_at}
use Rattle.es_event.specs.Waiters.{asleep}
use Rattle.es_event.proofs.Accepted.{is_accepted}
use Rattle.es_event.proofs.Extending.{all_refusals}
use Rattle.es_match.specs.declared.deed.Sleep.{Sleep}
use Rattle.es_match.specs.Asks.{Asking, nothing, to_access, to_compare, to_measure, to_notify, to_open, to_post, to_refuse, asks_did, asks_wait, asks_word, between_jobs, given, wants_room}
use Rattle.es_match.specs.Deeds.{Deed, Accesses, TimesOut, Wakes, deed, sleep_of}
use Rattle.es_match.specs.Meets.{Tickets, after, is_end_of_sleep, is_miss, is_sleep_at, is_ticket, same_index}
use Rattle.es_match.specs.Patience.{ends_sleep, may_do, may_stir}
use Rattle.es_match.proofs.Sleeping.{has_a_sleep}
use Rattle.es_ticket.specs.Stakes.{at}
use Rattle.es_ledger.specs.Sleeps.{rested}
use Rattle.es_ledger.specs.declared.turn.Turn.{Turn}
use Rattle.es_ledger.specs.declared.turn.Turn.TheVariants.{Ready, Stay, Skip}
use Rattle.es_ledger.proofs.Waking.{listed_asleep}
use Rattle.es_record.specs.AgentView.{AgentView, IsNext, with_row}
use Rattle.es_rules.specs.Needs.{Request, asked, asks_ledger, for_word, ledger_or_nobody, need, need_of, unless_refused}
use Rattle.es_agent.specs.Tickets.{tickets}
use Rattle.es_cluster.specs.Tied.{AsksFor, IsTied}
use Rattle.es_cluster.proofs.Asking.{at_row, object_at, word_asks}
use Rattle.es_theorems.specs.Doing.{event_of}
use Rattle.es_theorems.specs.Grown.{asked_by}
use Rattle.es_theorems.specs.Settled.{word_at}
use Rattle.es_theorems.proofs.Begun.{Does, does_wait}
use Rattle.es_theorems.proofs.Commands.{its_index, its_serial, its_word, one_of, some_if_true}
use Rattle.es_theorems.proofs.Deciding.{agrees_row, values_read}
use Rattle.es_theorems.proofs.Doing.{meant}
use Rattle.es_theorems.proofs.Playing.{free_unless}
use Rattle.es_theorems.proofs.Rousing.{has_end}
use Rattle.es_theorems.proofs.Turning.{woken_by}
use Rattle.es_theorems.proofs.Waiting.{is_ending, no_end}

-- What it does

-- the deed ends the sleep, or finds another word
abbrev pub EndsWait : Tickets → ℕ → ℕ → ℕ → Deed → Type 0
EndsWait t o i w d = (ends_sleep d ≡ true) ⊎ (is_miss t (Object o) (pos i) w d ≡ true)

ended : (t : Tickets) (v : Value) (i : ℤ) (w : ℕ) (how : WaitResult) (d : Deed) → is_end_of_sleep t v i w how d ≡ true → ends_sleep d ≡ true
ended t v i w WaitResult.Woken (Wakes p) is = refl
ended t v i w WaitResult.TimedOut (TimesOut p) is = refl
ended t v i w WaitResult.Woken _ is = cc
ended t v i w WaitResult.TimedOut _ is = cc
ended t v i w WaitResult.NotEqual d is = cc

-- the one deed of the event of who asks to sleep
pub sleep_first : (b : AgentView) (r : Option Row) (e : Event) (o i w : ℕ) (now : List Deed) (left : Tickets) → IsRunOver b.over b.plan b.history → IsNext (with_row r b) e → need b ≡ asks_ledger (for_word o i (Task.Sleep w))
    → after (tickets b) (asked_by b e) now ≡ Some left → (d : Deed) × (now ≡ d ∷ []) × EndsWait (tickets b) o i w d
sleep_first b r e o i w now left history next asks met = by (wait_given (given does.answer)) (ap (λ q. after (tickets b) q now) (sym asked') ∙ met)
  where
    does : Does b e o i w
    does = does_wait b e r o i w history next asks

    read : does.values ≡ values_read b does.due
    read = (subst (IsNext (with_row r b)) does.is next).lawful.0 ∙ ap (λ c. values_of (receivers b.plan.jobs) b.history (reads c)) does.same

    asked' : asked_by b e ≡ asks_wait (Object o) (pos i) w (wait_given (given does.answer))
    asked' =
        ap (asked_by b) does.is ∙ ap (λ c. asks_did c does.values does.answer) does.same ∙ ap (λ vs. asks_did does.due vs does.answer) read
        ∙ word_asks b does.due o i (Task.Sleep w) does.answer does.asked

    by : (how : WaitResult) → after (tickets b) (asks_wait (Object o) (pos i) w how) now ≡ Some left → (d : Deed) × (now ≡ d ∷ []) × EndsWait (tickets b) o i w d
    by WaitResult.Woken met =
        let one = one_of (is_end_of_sleep (tickets b) (Object o) (pos i) w WaitResult.Woken) now (some_if_true _ (tickets b) left met) in
        (one.0, one.1, inl (ended (tickets b) (Object o) (pos i) w WaitResult.Woken one.0 one.2))
    by WaitResult.TimedOut met =
        let one = one_of (is_end_of_sleep (tickets b) (Object o) (pos i) w WaitResult.TimedOut) now (some_if_true _ (tickets b) left met) in
        (one.0, one.1, inl (ended (tickets b) (Object o) (pos i) w WaitResult.TimedOut one.0 one.2))
    by WaitResult.NotEqual met = let one = one_of (is_miss (tickets b) (Object o) (pos i) w) now (some_if_true _ (tickets b) left met) in (one.0, one.1, inr one.2)

-- The other way

-- a command at a word that is done was asked for
done_need : (b : AgentView) (r : Option Row) (k : AtomicParts) (vs : List Value) (a : Answer) (q : Request) → IsRunOver b.over b.plan b.history → IsNext (with_row r b) (Did (Atomic k, vs, a)) → asked (Atomic k) vs ≡ Some q → need b ≡ asks_ledger q
done_need b r k vs a q history next asks = at (due b.plan b.history) next.permitted
  where
    read : vs ≡ values_read b (Atomic k)
    read = next.lawful.0

    accepted : refusal (with_row r b).over b.history (Atomic k) vs ≡ None
    accepted = is_accepted (with_row r b).over b.history (Atomic k) vs (heard_by (Atomic k) a) a next.lawful.1

    refused_none : refused_now (with_row r b).over (receivers b.plan.jobs) b.history (Atomic k) ≡ None
    refused_none = ap (refusal (with_row r b).over b.history (Atomic k)) (sym read) ∙ accepted

    itself : (o : Option Refusal) (x : Option (List ℕ)) (c : Command) → Atomic k ≡ done_for o x c → c ≡ Atomic k
    itself None x c same = sym same
    itself (Some code) (Some x) c same = cc
    itself (Some code) None c same = sym same

    its_need : (x : Option (List ℕ)) (c : Command) → c ≡ Atomic k → need_of b (run x c) ≡ asks_ledger q
    its_need x c is =
        ap (λ c. need_of b (run x c)) is
        ∙ ap (λ f. ledger_or_nobody (unless_refused f (asked (Atomic k) (values_read b (Atomic k)))))
        (all_refusals b.over (with_row r b).over (receivers b.plan.jobs) b.history history.0 (agrees_row b r) (Atomic k) (values_read b (Atomic k)) ∙ refused_none)
        ∙ ap (λ o. ledger_or_nobody o) (ap (asked (Atomic k)) (sym read) ∙ asks)

    at : (d : Due) → Permits (with_row r b).over (receivers b.plan.jobs) b.history d (Did (Atomic k, vs, a)) → need_of b d ≡ asks_ledger q
    at (run x c) may = its_need x c (itself (refused_now (with_row r b).over (receivers b.plan.jobs) b.history c) x c may)
    at _ may = absurd may

some_object : (t : Tickets) (v : Value) (s : ℕ) → is_ticket t v s ≡ true → (o : ℕ) × (object_of v ≡ Some o)
some_object t v s is = by (object_of v) refl
  where
    by : (q : Option ℕ) → object_of v ≡ q → (o : ℕ) × (object_of v ≡ Some o)
    by None here = (let none : is_ticket t v s ≡ false = ap (λ q. option_map_or (λ (r : Row). r.serial == s) (option_and_then (row_at t) q) false) here in absurd (false≢true (sym none ∙ is)))
    by (Some o) here = (o, here)

ended_at : (t : Tickets) (v : Value) (i : ℤ) (w : ℕ) (how : WaitResult) (d : Deed) (ds : List Deed) (left : Tickets) → after t (asks_wait v i w how) (d ∷ ds) ≡ Some left → ends_sleep d ≡ true → is_sleep_at t v i w (woken_by d) ≡ true
ended_at t v i w WaitResult.Woken (Wakes p) [] left met ends = some_if_true _ t left met
ended_at t v i w WaitResult.TimedOut (TimesOut p) [] left met ends = some_if_true _ t left met
ended_at t v i w WaitResult.Woken (TimesOut p) [] left met ends = cc
ended_at t v i w WaitResult.TimedOut (Wakes p) [] left met ends = cc
ended_at t v i w WaitResult.NotEqual (Wakes p) [] left met ends = cc
ended_at t v i w WaitResult.NotEqual (TimesOut p) [] left met ends = cc
ended_at t v i w WaitResult.Woken d (c ∷ ds) left met ends = cc
ended_at t v i w WaitResult.TimedOut d (c ∷ ds) left met ends = cc
ended_at t v i w WaitResult.NotEqual d (c ∷ ds) left met ends = cc
ended_at t v i w how d [] left met ends = cc

-- the sleep that the first deed ends is the one that is asked for
pub first_sleep : (b : AgentView) (r : Option Row) (e : Event) (d : Deed) (ds : List Deed) (left : Tickets) (s : Sleep) → IsRunOver b.over b.plan b.history → IsNext (with_row r b) e → after (tickets b) (asked_by b e) (d ∷ ds) ≡ Some left
    → ends_sleep d ≡ true → woken_by d ≡ Some s → AsksFor b s
first_sleep b r e d ds left s history next met ends its = at e next met
  where
    none : (w : Asking) → is_ending w ≡ false → after (tickets b) w (d ∷ ds) ≡ Some left → AsksFor b s
    none w off met = absurd (false≢true (sym (or_parts (ends_sleep d) (has_end ds) (no_end (tickets b) left w (d ∷ ds) off met)).0 ∙ ends))

    asks_so : (k : AtomicParts) (vs : List Value) (a : Answer) (w : ℕ) → IsNext (with_row r b) (Did (Atomic k, vs, a)) → task_of k vs ≡ Task.Sleep w → is_sleep_at (tickets b) (first vs) (index_of k vs) w (woken_by d) ≡ true → AsksFor b s
    asks_so k vs a w next task slept =
        let found : is_sleep_at (tickets b) (first vs) (index_of k vs) w (Some s) ≡ true = ap (is_sleep_at (tickets b) (first vs) (index_of k vs) w) (sym its) ∙ slept in
        let parts = and_parts (is_ticket (tickets b) (first vs) s.serial) (same_index (index_of k vs) s.index && (s.word == w)) found in
        let rest = and_parts (same_index (index_of k vs) s.index) (s.word == w) parts.1 in
        let object = some_object (tickets b) (first vs) s.serial parts.0 in
        let asks : asked (Atomic k) vs ≡ Some (for_word object.0 s.index (Task.Sleep s.word)) =
        ap (option_map (λ o. for_word o (unsigned_abs (index_of k vs)) (task_of k vs))) object.1
        ∙ ap (λ i. Some (for_word object.0 i (task_of k vs))) (sym (its_index (index_of k vs) s.index rest.0))
        ∙ ap (λ t. Some (for_word object.0 s.index t)) (task ∙ ap (λ w. Task.Sleep w) (sym (eqb-true s.word w rest.1))) in
        (object.0, done_need b r k vs a (for_word object.0 s.index (Task.Sleep s.word)) history next asks, ap (λ v. is_ticket (tickets b) v s.serial) (sym (object_at (first vs) object.0 object.1)) ∙ parts.0)

    at_word : (k : AtomicParts) (vs : List Value) (a : Answer) (t : Task) → IsNext (with_row r b) (Did (Atomic k, vs, a)) → task_of k vs ≡ t → after (tickets b) (asks_word (first vs) (index_of k vs) t (given a)) (d ∷ ds) ≡ Some left → AsksFor b s
    at_word k vs a (Task.Sleep w) next task met = asks_so k vs a w next task (ended_at (tickets b) (first vs) (index_of k vs) w (wait_given (given a)) d ds left met ends)
    at_word k vs a (Task.Access m) next task met = none (to_access (first vs) (index_of k vs) m (given a)) refl met
    at_word k vs a (Task.Notify n) next task met = none (to_notify (first vs) (index_of k vs) n (given a)) refl met

    at_command : (c : Command) (vs : List Value) (a : Answer) → IsNext (with_row r b) (Did (c, vs, a)) → after (tickets b) (asks_did c vs a) (d ∷ ds) ≡ Some left → AsksFor b s
    at_command (Atomic k) vs a next met = at_word k vs a (task_of k vs) next refl met
    at_command (Command.SharedArrayBuffer to n) vs a next met = none (to_open n (given a)) refl met
    at_command (Command.Length to c) vs a next met = none (to_measure (first vs) (given a)) refl met
    at_command (Command.SameBlock to c q) vs a next met = none (to_compare (first vs) (second vs) (given a)) refl met
    at_command (Command.Post q y) vs a next met = none (to_post q (first vs)) refl met
    at_command _ vs a next met = none nothing refl met

    refused : (t : Bool) → after (tickets b) (cond t to_refuse nothing) (d ∷ ds) ≡ Some left → AsksFor b s
    refused true met = none to_refuse refl met
    refused false met = none nothing refl met

    at : (e : Event) → IsNext (with_row r b) e → after (tickets b) (asked_by b e) (d ∷ ds) ≡ Some left → AsksFor b s
    at (Did (c, vs, a)) next met = at_command c vs a next met
    at (Refused code) next met = refused (between_jobs b.history && wants_room code) met
    at e next met = none (asked_by b e) refl met

-- Who sleeps

-- who asks for no sleep is awake
pub awake_unless : (b : AgentView) (l : Ledger) → IsTied b l → ((o i w : ℕ) → need b ≡ asks_ledger (for_word o i (Task.Sleep w)) → ⊥) → asleep l b.number ≡ false
awake_unless b l tied other = by (sleep_of l b.number) refl
  where
    by : (q : Option Sleep) → sleep_of l b.number ≡ q → asleep l b.number ≡ false
    by None is = sym (has_a_sleep l b.number) ∙ ap is_some is
    by (Some s) is = let asks = tied.sleeps s is in absurd (other asks.0 s.index s.word asks.1)

-- What it is told

awake_for : (t : Bool) (d : Deed) → ends_sleep d ≡ false → may_stir t d ≡ true → t ≡ false
awake_for false d quick may = refl
awake_for true d quick may = absurd (false≢true (sym quick ∙ may))

-- the ticket of this serial is that of the object
pub serial_here : (t : Tickets) (o s : ℕ) (r : Row) → Some r ≡ at o t → is_ticket t (Object o) s ≡ true → s ≡ r.serial
serial_here t o s r here is = its_serial t (Object o) s is ∙ ap (λ q. option_map_or (λ (r : Row). r.serial) q 0) (at_row t o ∙ sym here)

-- who ends a sleep so is not told to sleep on
pub rested_right : (n : ℕ) (m : Ledger) (x : LedgerEvent) (a o i w : ℕ) (r : Row) (t : Tickets) (d : Deed) → LegalSoFar n m → MayCome n m x → deed m x ≡ Some (a, d) → may_do (waits m a) d ≡ true → may_stir (asleep m a) d ≡ true
    → Some r ≡ at o t → holder_of m r.serial ≡ Some (a, r) → EndsWait t o i w d → (rested m n a r i w).0 ≡ Some Stay → ⊥
rested_right n m x a o i w r t d legal may is does stirs here held how stay = elim how [
  | inl ends ↦ by_sleep d ends (subst (MayCome n m) (meant n m x a d may is).event may)
  | inr miss ↦ by_miss d miss is (subst (MayCome n m) (meant n m x a d may is).event may) (ap (deed m) (sym (meant n m x a d may is).event) ∙ is) does stirs
]
  where
    by_sleep : (d : Deed) → ends_sleep d ≡ true → MayCome n m (event_of a d) → ⊥
    by_sleep (Wakes p) ends may = let told : (rested m n a r i w).0 ≡ Some Ready = rw (may.0, may.1) refl in let clash : ◌≡◌ {A = Option Turn} (Some Ready) (Some Stay) = sym told ∙ stay in cc
    by_sleep (TimesOut p) ends may =
        let down = listed_asleep n m a legal may.0 in
        let told : (rested m n a r i w).0 ≡ Some Skip = rw (down, may.0, may.1) refl in
        let clash : ◌≡◌ {A = Option Turn} (Some Skip) (Some Stay) = sym told ∙ stay in cc
    by_sleep _ ends may = cc

    by_miss : (d : Deed) → is_miss t (Object o) (pos i) w d ≡ true → deed m x ≡ Some (a, d) → MayCome n m (event_of a d) → deed m (event_of a d) ≡ Some (a, d) → may_do (waits m a) d ≡ true → may_stir (asleep m a) d ≡ true → ⊥
    by_miss (Accesses s j c old) miss is may mine does stirs =
        let parts = and_parts (is_ticket t (Object o) s) (same_index (pos i) j && (is_same_change Change.Keep c && not (old == w))) miss in
        let rest = and_parts (same_index (pos i) j) (is_same_change Change.Keep c && not (old == w)) parts.1 in
        let last = and_parts (is_same_change Change.Keep c) (not (old == w)) rest.1 in
        let reach : Reaches (holder_of m s) j (λ q. old ≡ word m q.block j) = (meant n m (Accessed s j c old) a (Accesses s j c old) may mine).fits in
        let there : old ≡ word m r.block i =
        its_word m s j old reach ∙ ap (λ s. word_at m s j) (serial_here t o s r here parts.0) ∙ ap (word_at m r.serial) (its_index (pos i) j rest.0)
        ∙ ap (λ h. option_map_or (λ (p : ℕ × Row). word m p.1.block i) h 0) held in
        let other : (word m r.block i == w) ≡ false = ap (λ v. v == w) (sym there) ∙ not-true (old == w) last.1 in
        let up = awake_for (asleep m a) (Accesses s j c old) refl stirs in
        let free = free_unless (waits m a) (Accesses s j c old) does (λ q. refl) in
        let told : (rested m n a r i w).0 ≡ None = rw (up, free, other) refl in
        let clash : ◌≡◌ {A = Option Turn} None (Some Stay) = sym told ∙ stay in cc
    by_miss _ miss is may mine does stirs = cc
