-- An agent asks for a message exactly where the first deed of its next event ends a wait for it.
use Rattle.std.proofs.Common.{◌≡◌, ◌||◌, ℕ, ◌==◌, ◌&&◌, not, Bool, true, false, cond, sym, ◌∙◌, ap, refl, subst, List, [], ◌∷◌, Option, Some, None, eq-eqb, eqb-true}
use Rattle.std.specs.Prelude.{ℤ, is_some, slice_get}
use Rattle.std.specs.Option.{option_and_then, option_map_or}
use Rattle.std.proofs.lemmas.Bool.{and_parts, false≢true, not-true}
use Rattle.es_value.specs.declared.value.Value.{Value}
use Rattle.es_event.specs.declared.access.Access.{Access}
use Rattle.es_event.specs.declared.access.WaitResult.{WaitResult}
use Rattle.es_event.specs.declared.access.Task.{Task}
use Rattle.es_event.specs.declared.command.Command.{Command}
use Rattle.es_event.specs.declared.command.Command.TheVariants.{SharedArrayBuffer}
use Rattle.es_event.specs.declared.event.Answer.{Answer}
use Rattle.es_event.specs.declared.event.Event.{Event}
use Rattle.es_event.specs.declared.event.Event.TheVariants.{Received, Did, Refused, Emptied, Skipped, Closed}
use Rattle.es_event.specs.declared.ledger_event.LedgerEvent.{LedgerEvent}
use Rattle.es_event.specs.declared.ledger_event.LedgerEvent.TheVariants.{Acted}
use Rattle.es_event.specs.declared.ledger_event.Act.TheVariants.{Waiting, Passed}
use Rattle.es_event.specs.declared.row.Row.{Row}
use Rattle.es_event.specs.Commands.{first}
use Rattle.es_event.specs.Numbers.{index_of, task_of}
use Rattle.es_event.specs.Follows.{Permits}
use Rattle.es_event.specs.History.{History}
use Rattle.es_event.specs.Jobs.{Receivers, job, receivers}
use Rattle.es_event.specs.Ledger.{Ledger, waits}
use Rattle.es_event.specs.LegalLedger.{MayCome, has_message, skips}
use Rattle.es_event.specs.Order.{Due, receive, run as run_due, due, phase}
use Rattle.es_event.specs.Runs.{IsRunOver}
use Rattle.es_event.specs.Sharing.{Buffers}
use Rattle.es_event.specs.Waiters.{asleep}
use Rattle.es_event.specs.Heard.{wait_given}
use Rattle.es_theorems.proofs.Doing.{meant}
use Rattle.es_theorems.specs.Doing.{event_of}
use Rattle.es_match.specs.Deeds.{Deed, Opens, Posts, Takes, Spends, Accesses, Passes, Ends, deed, Notifies, Wakes, TimesOut}
use Rattle.es_match.specs.Patience.{ends_wait}
use Rattle.es_match.specs.Asks.{nothing, to_receive, to_refuse, to_pass, asks_did, between_jobs, given, wants_room, asks_wait, asks_word}
use Rattle.es_match.specs.Cluster.{awaited, is_refusal_asked}
use Rattle.es_match.specs.Meets.{Tickets, after, gives, is_access, is_one, is_post, opening, refused_in, serials_of, sole, spends, within, is_end_of_sleep, is_miss, is_notify}
use Rattle.es_ledger.specs.Turns.{asked, judged, told}
use Rattle.es_ledger.specs.declared.turn.Turn.{Turn}
use Rattle.es_ledger.specs.declared.turn.Turn.TheVariants.{Ready, Stay, Skip}
use Rattle.es_record.specs.AgentView.{AgentView, IsNext, with_row}
use Rattle.es_rules.specs.Needs.{asks_message, need, need_of}
use Rattle.es_rules.proofs.Needs.{message_due}
use Rattle.es_agent.specs.Tickets.{is_ended, tickets}
use Rattle.es_agent.proofs.Racks.{open_after, open_before}
use Rattle.es_cluster.proofs.Asking.{at_message, awaited_at}
use Rattle.es_theorems.specs.Grown.{asked_by}
use Rattle.es_theorems.specs.Underway.{closes}
use Rattle.es_theorems.proofs.Commands.{some_if_true}
use Rattle.es_theorems.proofs.Unfolding.{refused_between}

-- The first deed of a message

-- there is a first deed, and it ends a wait for this sender
pub record EndsFirst (s : ℕ) (now : List Deed) : Type 0 where
  pub first : Deed
  pub others : List Deed
  pub is : now ≡ first ∷ others
  pub ends : ends_wait s first ≡ true

received_first : (t left : Tickets) (s : ℕ) (v : Value) (now : List Deed) → after t (to_receive s v) now ≡ Some left → EndsFirst s now
received_first t left s v (Takes u m w ∷ []) e = record { first = Takes u m w; others = []; is = refl; ends = at (u == s) refl e }
  where
    at : (b : Bool) → (u == s) ≡ b → cond b (option_and_then (λ b. gives t v b w) m) None ≡ Some left → (u == s) ≡ true
    at true is got = is
    at false is got = cc
received_first t left s v [] e = cc
received_first t left s v (d ∷ []) e = cc
received_first t left s v (c ∷ d ∷ ds) e = cc

refused_first : (t left : Tickets) (s : ℕ) (now : List Deed) → after t to_refuse now ≡ Some left → refused_in to_refuse now ≡ s ∷ [] → EndsFirst s now
refused_first t left s (Takes u m w ∷ d ∷ []) e sender =
    let same : u ≡ s = ap (λ ns. option_map_or (λ n. n) (slice_get ns 0) u) sender in
    record { first = Takes u m w; others = d ∷ []; is = refl; ends = eq-eqb u s same }
refused_first t left s [] e sender = cc
refused_first t left s (d ∷ []) e sender = cc
refused_first t left s (b ∷ c ∷ d ∷ ds) e sender = cc
refused_first t left s (c ∷ d ∷ []) e sender = cc

passed_first : (t left : Tickets) (s : ℕ) (now : List Deed) → after t (to_pass s) now ≡ Some left → EndsFirst s now
passed_first t left s (Passes u ∷ []) e = record { first = Passes u; others = []; is = refl; ends = some_if_true (u == s) t left e }
passed_first t left s [] e = cc
passed_first t left s (d ∷ []) e = cc
passed_first t left s (c ∷ d ∷ ds) e = cc

pub message_first : (b : AgentView) (r : Option Row) (e : Event) (s : ℕ) (now : List Deed) (left : Tickets) → IsRunOver b.over b.plan b.history → IsNext (with_row r b) e → need b ≡ asks_message s → after (tickets b) (asked_by b e) now ≡ Some left
    → refused_in (asked_by b e) now ≡ cond (is_refusal_asked (asked_by b e)) (awaited b.plan (job b.history)) [] → EndsFirst s now
message_first b r e s now left history next asks_it met named =
    let it = message_due b (due b.plan b.history) s asks_it in
    at e it.0 it.1 (subst (λ d. Permits (with_row r b).over (receivers b.plan.jobs) b.history d e) it.1 next.permitted) met named
  where
    at : (e : Event) (n : ℕ) → due b.plan b.history ≡ receive n s → Permits (with_row r b).over (receivers b.plan.jobs) b.history (receive n s) e → after (tickets b) (asked_by b e) now ≡ Some left
        → refused_in (asked_by b e) now ≡ cond (is_refusal_asked (asked_by b e)) (awaited b.plan (job b.history)) [] → EndsFirst s now
    at (Received t v) n is may met named = subst (λ s. EndsFirst s now) may.0 (received_first (tickets b) left t v now met)
    at (Refused code) n is may met named =
        let between = at_message b.over b.plan b.history n s history.1 is in
        let asked' : asked_by b (Refused code) ≡ to_refuse = ap (λ t. cond (t && wants_room code) to_refuse nothing) between ∙ ap (λ code. cond (wants_room code) to_refuse nothing) may.0 in
        refused_first (tickets b) left s now (ap (λ w. after (tickets b) w now) (sym asked') ∙ met)
        (ap (λ w. refused_in w now) (sym asked') ∙ named ∙ ap (λ w. cond (is_refusal_asked w) (awaited b.plan (job b.history)) []) asked' ∙ awaited_at b.plan b.history n s is)
    at (Skipped j t) n is may met named = subst (λ s. EndsFirst s now) may.1 (passed_first (tickets b) left t now met)
    at _ n is may met named = absurd may

-- The other way

spends_none : (closing : Bool) (ns : List ℕ) (d : Deed) (ds : List Deed) (s : ℕ) → spends closing ns (d ∷ ds) ≡ true → ends_wait s d ≡ false
spends_none false [] d ds s is = cc
spends_none true [] Ends ds s is = refl
spends_none true [] d ds s is = cc
spends_none closing (n ∷ ns) (Spends q) ds s is = refl
spends_none closing (n ∷ ns) d ds s is = cc

sole_none : (f : Deed → Option Tickets) (d : Deed) (ds : List Deed) (x : Tickets) (s : ℕ) → ((d : Deed) → ends_wait s d ≡ true → f d ≡ None) → option_and_then f (sole (d ∷ ds)) ≡ Some x → ends_wait s d ≡ false
sole_none f d [] x s none e = at (ends_wait s d) refl
  where
    at : (b : Bool) → ends_wait s d ≡ b → ends_wait s d ≡ false
    at false is = is
    at true is = let clash : ◌≡◌ {A = Option Tickets} None (Some x) = sym (none d is) ∙ e in cc
sole_none f d (c ∷ ds) x s none e = cc

is_one_none : (test : Deed → Bool) (d : Deed) (ds : List Deed) (s : ℕ) → ((d : Deed) → ends_wait s d ≡ true → test d ≡ false) → is_one test (d ∷ ds) ≡ true → ends_wait s d ≡ false
is_one_none test d [] s none e = at (ends_wait s d) refl
  where
    at : (b : Bool) → ends_wait s d ≡ b → ends_wait s d ≡ false
    at false is = is
    at true is = absurd (false≢true (sym (none d is) ∙ e))
is_one_none test d (c ∷ ds) s none e = cc

opening_none : (t : Tickets) (n : ℕ) (v : Value) (s : ℕ) (d : Deed) → ends_wait s d ≡ true → opening t n v d ≡ None
opening_none t n v s (Opens b w q) is = cc
opening_none t n v s _ is = refl

access_none : (t : Tickets) (b : Value) (i : ℤ) (m : Access) (v : Value) (s : ℕ) (d : Deed) → ends_wait s d ≡ true → is_access t b i m v d ≡ false
access_none t b i m v s (Accesses q j c old) is = cc
access_none t b i m v s _ is = refl

post_none : (t : Tickets) (q : ℕ) (v : Value) (s : ℕ) (d : Deed) → ends_wait s d ≡ true → is_post t q v d ≡ false
post_none t q v s (Posts r m) is = cc
post_none t q v s _ is = refl

miss_none : (t : Tickets) (b : Value) (i : ℤ) (w : ℕ) (s : ℕ) (d : Deed) → ends_wait s d ≡ true → is_miss t b i w d ≡ false
miss_none t b i w s (Accesses q j c old) is = cc
miss_none t b i w s _ is = refl

sleep_none : (t : Tickets) (b : Value) (i : ℤ) (w : ℕ) (r : WaitResult) (s : ℕ) (d : Deed) → ends_wait s d ≡ true → is_end_of_sleep t b i w r d ≡ false
sleep_none t b i w WaitResult.Woken s (Wakes o) is = cc
sleep_none t b i w WaitResult.TimedOut s (TimesOut o) is = cc
sleep_none t b i w _ s _ is = refl

notify_none : (t : Tickets) (b : Value) (i : ℤ) (n : ℕ) (v : Value) (s : ℕ) (d : Deed) → ends_wait s d ≡ true → is_notify t b i n v d ≡ false
notify_none t b i n v s (Notifies q j m k) is = cc
notify_none t b i n v s _ is = refl

wait_none : (b : Value) (i : ℤ) (w : ℕ) (r : WaitResult) (t left : Tickets) (d : Deed) (ds : List Deed) (s : ℕ) → after t (asks_wait b i w r) (d ∷ ds) ≡ Some left → ends_wait s d ≡ false
wait_none b i w WaitResult.Woken t left d ds s e = is_one_none (is_end_of_sleep t b i w WaitResult.Woken) d ds s (sleep_none t b i w WaitResult.Woken s) (some_if_true _ t left e)
wait_none b i w WaitResult.NotEqual t left d ds s e = is_one_none (is_miss t b i w) d ds s (miss_none t b i w s) (some_if_true _ t left e)
wait_none b i w WaitResult.TimedOut t left d ds s e = is_one_none (is_end_of_sleep t b i w WaitResult.TimedOut) d ds s (sleep_none t b i w WaitResult.TimedOut s) (some_if_true _ t left e)

word_none : (b : Value) (i : ℤ) (k : Task) (v : Value) (t left : Tickets) (d : Deed) (ds : List Deed) (s : ℕ) → after t (asks_word b i k v) (d ∷ ds) ≡ Some left → ends_wait s d ≡ false
word_none b i (Task.Access m) v t left d ds s e = is_one_none (is_access t b i m v) d ds s (access_none t b i m v s) (some_if_true _ t left e)
word_none b i (Task.Sleep w) v t left d ds s e = wait_none b i w (wait_given v) t left d ds s e
word_none b i (Task.Notify n) v t left d ds s e = is_one_none (is_notify t b i n v) d ds s (notify_none t b i n v s) (some_if_true _ t left e)

did_none : (c : Command) (vs : List Value) (a : Answer) (t left : Tickets) (d : Deed) (ds : List Deed) (s : ℕ) → after t (asks_did c vs a) (d ∷ ds) ≡ Some left → ends_wait s d ≡ false
did_none (SharedArrayBuffer to n) vs a t left d ds s e = sole_none (opening t n (given a)) d ds left s (opening_none t n (given a) s) e
did_none (Command.Atomic c) vs a t left d ds s e = word_none (first vs) (index_of c vs) (task_of c vs) (given a) t left d ds s e
did_none (Command.Post q y) vs a t left d ds s e = is_one_none (is_post t q (first vs)) d ds s (post_none t q (first vs) s) (some_if_true _ t left e)
did_none _ vs a t left d ds s e = cc

-- where an event may come that takes a message or skips one
received_due : (over : Buffers) (into : Receivers) (h : History) (d : Due) (t : ℕ) (v : Value) → Permits over into h d (Received t v) → (n : ℕ) × (d ≡ receive n t)
received_due over into h (receive n s) t v may = (n, ap (receive n) (sym may.0))
received_due over into h (run_due x c) t v may = absurd may
received_due over into h _ t v may = absurd may

skipped_due : (over : Buffers) (into : Receivers) (h : History) (d : Due) (j t : ℕ) → Permits over into h d (Skipped j t) → (n : ℕ) × (d ≡ receive n t)
skipped_due over into h (receive n s) j t may = (n, ap (receive n) (sym may.1))
skipped_due over into h (run_due x c) j t may = absurd may
skipped_due over into h _ j t may = absurd may

two_same : (s t : ℕ) (d : Deed) → ends_wait s d ≡ true → ends_wait t d ≡ true → s ≡ t
two_same s t (Takes u m w) a b = sym (eqb-true u s a) ∙ eqb-true u t b
two_same s t (Passes u) a b = sym (eqb-true u s a) ∙ eqb-true u t b
two_same s t _ a b = cc

the_first : (s t : ℕ) (d : Deed) (ds : List Deed) → ends_wait s d ≡ true → EndsFirst t (d ∷ ds) → t ≡ s
the_first s t d ds ends f = let same : d ≡ f.first = (let i = f.is in cc) in two_same t s d (ap (ends_wait t) same ∙ f.ends) ends

pub first_message : (b : AgentView) (r : Option Row) (e : Event) (s : ℕ) (d : Deed) (ds : List Deed) (left : Tickets) → IsNext (with_row r b) e → after (tickets b) (asked_by b e) (d ∷ ds) ≡ Some left
    → refused_in (asked_by b e) (d ∷ ds) ≡ cond (is_refusal_asked (asked_by b e)) (awaited b.plan (job b.history)) [] → ends_wait s d ≡ true → need b ≡ asks_message s
first_message b r (Received t v) s d ds left next met named ends =
    let at = received_due (with_row r b).over (receivers b.plan.jobs) b.history (due b.plan b.history) t v next.permitted in
    let same = the_first s t d ds ends (received_first (tickets b) left t v (d ∷ ds) met) in
    ap (need_of b) at.1 ∙ ap asks_message same
first_message b r (Skipped j t) s d ds left next met named ends =
    let at = skipped_due (with_row r b).over (receivers b.plan.jobs) b.history (due b.plan b.history) j t next.permitted in
    let same = the_first s t d ds ends (passed_first (tickets b) left t (d ∷ ds) met) in
    ap (need_of b) at.1 ∙ ap asks_message same
first_message b r (Refused code) s d ds left next met named ends = at (between_jobs b.history && wants_room code) refl met named
  where
    at : (t : Bool) → (between_jobs b.history && wants_room code) ≡ t → after (tickets b) (cond t to_refuse nothing) (d ∷ ds) ≡ Some left
        → refused_in (cond t to_refuse nothing) (d ∷ ds) ≡ cond (is_refusal_asked (cond t to_refuse nothing)) (awaited b.plan (job b.history)) [] → need b ≡ asks_message s
    at false is met named = cc
    at true is met named =
        let it = refused_between (with_row r b).over (receivers b.plan.jobs) b.plan b.history code (due b.plan b.history) refl next.permitted (and_parts (between_jobs b.history) (wants_room code) is).0 in
        let same = the_first s it.1 d ds ends (refused_first (tickets b) left it.1 (d ∷ ds) met (named ∙ awaited_at b.plan b.history it.0 it.1 it.2)) in
        ap (need_of b) it.2 ∙ ap asks_message same
first_message b r (Did (c, vs, a)) s d ds left next met named ends = absurd (false≢true (sym (did_none c vs a (tickets b) left d ds s met) ∙ ends))
first_message b r (Emptied ids) s d ds left next met named ends = absurd (false≢true (sym (spends_none false (serials_of (within ids (tickets b))) d ds s (some_if_true _ _ left met)) ∙ ends))
first_message b r Closed s d ds left next met named ends = absurd (false≢true (sym (spends_none true (serials_of (tickets b)) d ds s (some_if_true _ _ left met)) ∙ ends))
first_message b r _ s d ds left next met named ends = cc

-- Whether the agent closes

word_closes : (b : Value) (i : ℤ) (k : Task) (v : Value) → closes (asks_word b i k v) ≡ false
word_closes b i (Task.Access m) v = refl
word_closes b i (Task.Sleep w) v = ended (wait_given v)
  where
    ended : (r : WaitResult) → closes (asks_wait b i w r) ≡ false
    ended WaitResult.Woken = refl
    ended _ = refl
word_closes b i (Task.Notify n) v = refl

pub did_not_close : (c : Command) (vs : List Value) (a : Answer) → closes (asks_did c vs a) ≡ false
did_not_close (SharedArrayBuffer to n) vs a = refl
did_not_close (Command.Atomic c) vs a = word_closes (first vs) (index_of c vs) (task_of c vs) (given a)
did_not_close _ vs a = refl

pub refused_not : (t : Bool) → closes (cond t to_refuse nothing) ≡ false
refused_not true = refl
refused_not false = refl

pub closes_is : (b : AgentView) (r : Option Row) (e : Event) → IsNext (with_row r b) e → closes (asked_by b e) ≡ is_ended (phase (e ∷ b.history))
closes_is b r Closed next = refl
closes_is b r (Did (c, vs, a)) next = did_not_close c vs a ∙ sym (open_after b.history (Did (c, vs, a)) (λ f. cc) (open_before (with_row r b) (Did (c, vs, a)) next))
closes_is b r (Refused code) next = refused_not (between_jobs b.history && wants_room code)
closes_is b r e next = sym (open_after b.history e (λ f. cc) (open_before (with_row r b) e next))

-- What it is told

abbrev pub turn_of : Turn × Ledger → Turn
turn_of p = p.0

pub told_right : (n : ℕ) (m : Ledger) (x : LedgerEvent) (i s : ℕ) (d : Deed) → MayCome n m x → deed m x ≡ Some (i, d) → ends_wait s d ≡ true → (told m n i s).0 ≡ Stay → ⊥
told_right n m x i s d may is ends stay = by d ends (subst (MayCome n m) (meant n m x i d may is).event may)
  where
    by : (d : Deed) → ends_wait s d ≡ true → MayCome n m (event_of i d) → ⊥
    by (Takes t b w) ends may =
        let there : has_message m s i ≡ true = ap (λ t. has_message m t i) (sym (eqb-true t s ends)) ∙ may in
        let ready : (told m n i s).0 ≡ Ready = ap (λ b. turn_of (cond b (Ready, m) (judged (asked m i s) n i s))) there in
        let clash : ◌≡◌ {A = Turn} Ready Stay = sym ready ∙ stay in cc
    by (Passes t) ends may =
        let waiting : waits m i ≡ Some s = may.0 ∙ ap Some (eqb-true t s ends) in
        let skip : skips m n i s ≡ true = ap (λ t. skips m n i t) (sym (eqb-true t s ends)) ∙ may.1 in
        let none : has_message m s i ≡ false = not-true (has_message m s i) (and_parts (not (has_message m s i)) _ skip).0 in
        let same : asked m i s ≡ m = ap (λ w. cond (is_some w || asleep m i) m (Acted i (Waiting s) ∷ m)) waiting in
        let skipping : (told m n i s).0 ≡ Skip =
        ap (λ b. turn_of (cond b (Ready, m) (judged (asked m i s) n i s))) none ∙ ap (λ l. turn_of (judged l n i s)) same
        ∙ ap (λ w. turn_of (cond (option_map_or (λ t. t == s) w false && skips m n i s) (Skip, Acted i (Passed s) ∷ m) (Stay, m))) waiting
        ∙ ap (λ b. turn_of (cond (b && skips m n i s) (Skip, Acted i (Passed s) ∷ m) (Stay, m))) (eq-eqb s s refl)
        ∙ ap (λ b. turn_of (cond b (Skip, Acted i (Passed s) ∷ m) (Stay, m))) skip
        in
        let clash : ◌≡◌ {A = Turn} Skip Stay = sym skipping ∙ stay in cc
    by _ ends may = cc
