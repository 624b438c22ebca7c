-- Two runs of one plan, in one of which an agent has begun to sleep that in the other slept and timed out at once.
use Rattle.std.proofs.Common.{◌≡◌, ℕ, ◌<◌, ◌==◌, ◌&&◌, ◌||◌, not, Bool, true, false, cond, sym, ◌∙◌, ap, refl, subst, arith, List, [], ◌∷◌, ◌++◌, Option, Some, None, inl, inr}
use Rattle.std.specs.Prelude.{pos, slice_get, slice_set}
use Rattle.std.specs.List.{list_any, position_from}
use Rattle.std.specs.Option.{option_map_or}
use Rattle.std.proofs.lemmas.Bool.{and_parts, cases_Bool, eq-eqb, eqb-true, false≢true}
use Rattle.es_value.specs.declared.value.Value.{Value}
use Rattle.es_value.specs.declared.value.Value.TheVariants.{Object}
use Rattle.es_event.specs.declared.access.Task.{Task}
use Rattle.es_event.specs.declared.command.Command.{Command}
use Rattle.es_event.specs.declared.event.Answer.{Answer}
use Rattle.es_event.specs.declared.event.Event.{Event}
use Rattle.es_event.specs.declared.event.Event.TheVariants.{Did, Refused, Emptied}
use Rattle.es_event.specs.declared.event.Refusal.{Refusal}
use Rattle.es_event.specs.declared.ledger_event.Act.TheVariants.{Slept, TimedOut}
use Rattle.es_event.specs.declared.ledger_event.LedgerEvent.TheVariants.{Acted}
use Rattle.es_event.specs.declared.row.Row.{Row}
use Rattle.es_event.specs.declared.waiter.Waiter.{Waiter}
use Rattle.es_event.specs.Commands.{collects, reads}
use Rattle.es_event.specs.Follows.{AtCommand, done_for, refused_now, Permits}
use Rattle.es_event.specs.Identities.{made}
use Rattle.es_event.specs.Jobs.{receivers}
use Rattle.es_event.specs.Legal.{values_of}
use Rattle.es_event.specs.Ledger.{Ledger, ended as has_ended, waits, word as word_of, holder_of}
use Rattle.es_event.specs.LegalLedger.{LegalSoFar, all_ended, all_stuck, is_chosen, is_stuck}
use Rattle.es_event.specs.Order.{due, RunsNow}
use Rattle.es_event.specs.Runs.{IsRunOver}
use Rattle.es_event.specs.Waiters.{asleep, block_by, is_listed, waiter, waiters}
use Rattle.es_event.proofs.Extending.{all_refusals}
use Rattle.es_ledger.specs.Sleeps.{rested}
use Rattle.es_ledger.specs.declared.turn.Turn.TheVariants.{Stay}
use Rattle.es_ledger.proofs.Waking.{listed_asleep}
use Rattle.es_match.specs.declared.deed.Sleep.{Sleep}
use Rattle.es_match.specs.Asks.{asks_did, asks_wait, given}
use Rattle.es_match.specs.Deeds.{TimesOut, Sleeps}
use Rattle.es_match.specs.Meets.{after, ticket_in, refused_in}
use Rattle.es_event.specs.Heard.{wait_given}
use Rattle.es_record.specs.AgentView.{AgentView, IsNext, with_row}
use Rattle.es_rules.specs.Needs.{Request, asks_ledger, asks_message, for_word, need, request}
use Rattle.es_rules.proofs.Needs.{ledger_due}
use Rattle.es_ticket.specs.Stakes.{at}
use Rattle.es_agent.specs.Tickets.{tickets}
use Rattle.es_cluster.specs.Moves.{goes_on, is_over, mover, or_else}
use Rattle.es_cluster.specs.State.{ClusterView}
use Rattle.es_cluster.specs.Turned.{WaitsRightly}
use Rattle.es_cluster.specs.Turns.{Turned}
use Rattle.es_cluster.specs.declared.member.Progress.TheVariants.{Moved, Waiting}
use Rattle.es_cluster.proofs.Asking.{DueCommand, at_row, due_command, word_asks}
use Rattle.es_cluster.proofs.Mover.{first_at, none_at_all, settled_at, settled_stays}
use Rattle.es_cluster.proofs.Sleeping.{a_sleep}
use Rattle.es_cluster.proofs.Standing.{within}
use Rattle.es_theorems.specs.Move.{asked_by}
use Rattle.es_theorems.specs.Alike.{Alike}
use Rattle.es_theorems.specs.Doing.{did}
use Rattle.es_theorems.specs.Rousing.{Led, Way, awake, shown, sleeping}
use Rattle.es_theorems.specs.Settled.{serial_at, word_at}
use Rattle.es_theorems.specs.Together.{AnyPlan, Same, StandsAtBy, StandsBy, Together}
use Rattle.es_theorems.proofs.Deciding.{agrees_row, asks_so}
use Rattle.es_theorems.proofs.Running.{Lies, Step, meet, same_mover, stands_after, step_from, step_of, shorter}
use Rattle.es_theorems.proofs.Choosing.{ended_below}
use Rattle.es_theorems.proofs.Telling.{after_one, same, same_holder, through, turned}
use Rattle.es_theorems.proofs.Waiting.{last_listed, slept_through}

-- A wait that is done

-- the event is that of the command that asks for this
pub record Does (b : AgentView) (e : Event) (o i w : ℕ) : Type 0 where
  pub due : Command
  pub asked : DueCommand b due (for_word o i (Task.Sleep w))
  pub command : Command
  pub values : List Value
  pub answer : Answer
  pub is : e ≡ Did (command, values, answer)
  pub same : command ≡ due

pub does_wait : (b : AgentView) (e : Event) (r : Option Row) (o i w : ℕ) → IsRunOver b.over b.plan b.history → IsNext (with_row r b) e → need b ≡ asks_ledger (for_word o i (Task.Sleep w)) → Does b e o i w
does_wait b e r o i w history next asks = by e (subst (λ d. Permits (with_row r b).over (receivers b.plan.jobs) b.history d e) at.1.1 next.permitted)
  where
    at : (c : Command) × RunsNow (due b.plan b.history) c × (collects c ≡ false) × (request b c ≡ Some (for_word o i (Task.Sleep w)))
    at = ledger_due b (due b.plan b.history) (for_word o i (Task.Sleep w)) asks

    c : Command
    c = at.0

    asked : DueCommand b c (for_word o i (Task.Sleep w))
    asked = due_command b at.1.0 c (for_word o i (Task.Sleep w)) at.1.1 asks

    accepted : refused_now (with_row r b).over (receivers b.plan.jobs) b.history c ≡ None
    accepted = sym (all_refusals b.over (with_row r b).over (receivers b.plan.jobs) b.history history.0 (agrees_row b r) c (values_of (receivers b.plan.jobs) b.history (reads c))) ∙ asked.accepted

    by : (e : Event) → AtCommand (with_row r b).over (receivers b.plan.jobs) b.history at.1.0 c e → Does b e o i w
    by (Did (d, vs, a)) may = record { due = c; asked = asked; command = d; values = vs; answer = a; is = refl; same = may ∙ ap (λ o. done_for o at.1.0 c) accepted }
    by (Refused code) may = let clash : ◌≡◌ {A = Option Refusal} None (Some code) = sym accepted ∙ may.1 in cc
    by (Emptied ids) may = absurd (false≢true (sym at.2 ∙ (and_parts (collects c) _ may.0).0))
    by _ may = absurd may

-- Where it timed out at once, none can go on and it is the lowest that has not ended

one_listed : (t : ℕ) (ws : List Waiter) (x : Waiter) → (x.agent == t) ≡ false → list_any (λ (w : Waiter). w.agent == t) (ws ++ x ∷ []) ≡ list_any (λ (w : Waiter). w.agent == t) ws
one_listed t [] x other = ap (λ b. b || false) other
one_listed t (w ∷ ws) x other = ap (λ b. (w.agent == t) || b) (one_listed t ws x other)

-- the cluster in which agent n has begun to sleep
abbrev lain : ClusterView → ℕ → ℕ → ℕ → ℕ → ClusterView
lain d n s i w = record { agents = d.agents; ledger = record { agents = d.ledger.agents; history = Acted n (Slept s i w) ∷ d.ledger.history }; failed = d.failed }

lowest : (k : ℕ) (d : ClusterView) (n s i w : ℕ) (b : AgentView) (r : Request) → StandsBy AnyPlan d → LegalSoFar k d.ledger.history → slice_get d.agents n ≡ Some b → need b ≡ asks_ledger r
    → is_chosen (Acted n (Slept s i w) ∷ d.ledger.history) d.ledger.agents n ≡ true → mover (lain d n s i w) ≡ Some n
lowest k d n s i w b r stands legal here asks chosen =
    ap (λ o. or_else o (position_from (λ b. not (is_over b)) 0 d.agents)) (none_at_all (goes_on m) d.agents none) ∙ first_at (λ b. not (is_over b)) d.agents n b lower here left
  where
    l : Ledger
    l = d.ledger.history

    m : Ledger
    m = Acted n (Slept s i w) ∷ l

    parts : (all_stuck m d.ledger.agents ≡ true) × ((all_ended m n && not (has_ended m n)) ≡ true)
    parts = and_parts (all_stuck m d.ledger.agents) (all_ended m n && not (has_ended m n)) chosen

    rest : (all_ended m n ≡ true) × (not (has_ended m n) ≡ true)
    rest = and_parts (all_ended m n) (not (has_ended m n)) parts.1

    same_view : (j : ℕ) (y : AgentView) → slice_get d.agents j ≡ Some y → j ≡ n → y ≡ b
    same_view j y at is = let found = sym at ∙ (ap (slice_get d.agents) is ∙ here) in cc

    -- who is in a list asks for its sleep
    lists : (j : ℕ) (y : AgentView) → slice_get d.agents j ≡ Some y → is_listed m y.number ≡ true → (q : Request) × (need y ≡ asks_ledger q)
    lists j y at listed = elim (cases_Bool (n == y.number)) [
      | inl e ↦ (r, ap need (same_view j y at (sym (stands.each j y at).number ∙ sym (eqb-true n y.number e))) ∙ asks)
      | inr e ↦ (
          let before : is_listed l y.number ≡ true = sym (one_listed y.number (waiters l) (waiter n (block_by l s) i) e) ∙ listed in
          let sleep = a_sleep l y.number (listed_asleep k l y.number legal before) in
          let its = (stands.each j y at).tied.sleeps sleep.0 sleep.1 in
          (for_word its.0 sleep.0.index (Task.Sleep sleep.0.word), its.1))
    ]

    none : (j : ℕ) (y : AgentView) → slice_get d.agents j ≡ Some y → goes_on m y ≡ false
    none j y at =
        let was = stands.each j y at in
        settled_stays m y was.seated.over (lists j y at) was.tied.awaits
        (ap (λ a. has_ended m a || is_stuck m a) was.number ∙ settled_at m d.ledger.agents j parts.0 (let size = stands.size in let inside = within d.agents j y at in omega (arith, size, inside)))

    lower : (j : ℕ) (y : AgentView) → j < n → slice_get d.agents j ≡ Some y → not (is_over y) ≡ false
    lower j y less at = let was = stands.each j y at in ap not (sym was.seated.over ∙ (ap (has_ended m) was.number ∙ ended_below m n j rest.0 less))

    left : not (is_over b) ≡ true
    left = let was = stands.each n b here in ap not (sym was.seated.over ∙ ap (has_ended m) was.number) ∙ rest.1

-- The one behind the other

-- in c agent n sleeps, and is the one to go on; and where it times out there, c comes to tell the same as d
pub record Behind (n : ℕ) (c d : ClusterView) : Type 0 where
  pub left : StandsBy AnyPlan c
  pub right : StandsBy AnyPlan d
  pub before : AgentView
  pub after : AgentView
  pub here : slice_get c.agents n ≡ Some before
  pub sleeps : asleep c.ledger.history n ≡ true
  pub turn : mover c ≡ Some n
  pub agents : d.agents ≡ slice_set c.agents n after
  pub number : c.ledger.agents ≡ d.ledger.agents
  pub step : Step n before c.ledger.history d.ledger.history after

-- it is not told to stay
timed_out : (d : ClusterView) (n o i w : ℕ) (r : Row) (b : AgentView) → b.number ≡ n → asleep d.ledger.history n ≡ false → waits d.ledger.history n ≡ None → word_of d.ledger.history r.block i ≡ w
    → ((rested d.ledger.history d.ledger.agents b.number r i w).0 ≡ Some Stay → ⊥) → is_chosen (Acted n (Slept r.serial i w) ∷ d.ledger.history) d.ledger.agents n ≡ true
timed_out d n o i w r b number up free found goes = by (is_chosen (Acted n (Slept r.serial i w) ∷ d.ledger.history) d.ledger.agents n) refl
  where
    listed : is_listed (Acted n (Slept r.serial i w) ∷ d.ledger.history) n ≡ true
    listed = last_listed n (waiters d.ledger.history) (waiter n (block_by d.ledger.history r.serial) i) refl

    by : (c : Bool) → is_chosen (Acted n (Slept r.serial i w) ∷ d.ledger.history) d.ledger.agents n ≡ c → is_chosen (Acted n (Slept r.serial i w) ∷ d.ledger.history) d.ledger.agents n ≡ true
    by true is = is
    by false is =
        let stays : (rested d.ledger.history d.ledger.agents n r i w).0 ≡ Some Stay = rw (up, free, eq-eqb (word_of d.ledger.history r.block i) w found, listed, is) refl in
        absurd (goes (ap (λ n. (rested d.ledger.history d.ledger.agents n r i w).0) number ∙ stays))

-- agent n begins to sleep in the one, and times out at once in the other
pub falls_behind : (n : ℕ) (c d x y : ClusterView) → Together c d → Turned Waiting n c x → Lies n c x → Turned Moved n d y → Behind n x y
falls_behind n c d x y both begins lies turn = record {
  left = stands_after Waiting n c x both.left begins;
  right = stands_after Moved n d y both.right turn;
  before = b;
  after = turn.after;
  here = ap (λ bs. slice_get bs n) lies.agents ∙ lies.here;
  sleeps = ap (λ l. asleep l n) lies.history ∙ ap (λ t. cond t true (asleep c.ledger.history n)) (eq-eqb n n refl);
  turn = same_mover x (lain d n s i w) apart ∙ lowest d.ledger.agents d n s i w b (for_word o i (Task.Sleep w)) both.right legal there lies.asks chosen;
  agents = turn.agents ∙ ap (λ bs. slice_set bs n turn.after) (sym both.same.agents ∙ sym lies.agents);
  number = lies.number ∙ both.same.number ∙ sym turn.number;
  step = step;
}
  where
    b : AgentView
    b = lies.before

    o : ℕ
    o = lies.object

    i : ℕ
    i = lies.index

    w : ℕ
    w = lies.word

    s : ℕ
    s = lies.row.serial

    l : Ledger
    l = d.ledger.history

    there : slice_get d.agents n ≡ Some b
    there = ap (λ bs. slice_get bs n) (sym both.same.agents) ∙ lies.here

    view : turn.before ≡ b
    view = let found = sym turn.agent ∙ there in cc

    was : StandsAtBy AnyPlan d n b
    was = both.right.each n b there

    up : asleep l n ≡ false
    up = sym (both.same.ledgers.asleep n) ∙ lies.up

    legal : LegalSoFar d.ledger.agents l
    legal = shorter d.ledger.agents turn.ledger.0 l (subst (LegalSoFar d.ledger.agents) turn.ledger.1 (subst (λ k. LegalSoFar k y.ledger.history) turn.number turn.legal.0))

    -- the ledger of the one, and that of the other with the sleep
    alike : Alike x.ledger.history (Acted n (Slept s i w) ∷ l)
    alike = subst (λ k. Alike k (Acted n (Slept s i w) ∷ l)) (sym lies.history) (after_one c.ledger.history l (Acted n (Slept s i w)) both.same.ledgers)

    apart : Same x (lain d n s i w)
    apart = record { agents = lies.agents ∙ both.same.agents; number = lies.number ∙ both.same.number; ledgers = alike }

    free : waits l n ≡ None
    free = by (waits l n) refl
      where
        by : (q : Option ℕ) → waits l n ≡ q → waits l n ≡ None
        by None is = is
        by (Some t) is = let clash : asks_ledger (for_word o i (Task.Sleep w)) ≡ asks_message t = sym lies.asks ∙ was.tied.awaits t (ap (waits l) was.number ∙ is) in cc

    told : WaitsRightly Moved b d.ledger y.ledger
    told = subst (λ b. WaitsRightly Moved b d.ledger y.ledger) view turn.told

    chosen : is_chosen (Acted n (Slept s i w) ∷ l) d.ledger.agents n ≡ true
    chosen = timed_out d n o i w lies.row b was.number up free (sym (both.same.ledgers.words lies.row.block i) ∙ lies.found) (told.1 o i w lies.row lies.asks lies.ticket)

    was_step : Step n b l y.ledger.history turn.after
    was_step = subst (λ b. Step n b l y.ledger.history turn.after) view (step_of n d y both.right turn)

    does : Does b was_step.event o i w
    does = does_wait b was_step.event was_step.row o i w was.run was_step.way.next lies.asks

    way : Way n l b (Did (does.command, does.values, does.answer)) was_step.row was_step.deeds
    way = subst (λ e. Way n l b e was_step.row was_step.deeds) does.is was_step.way

    asked : asks_did does.command does.values does.answer ≡ asks_wait (Object o) (pos i) w (wait_given (given does.answer))
    asked = asks_so b does.due does.command does.values does.answer was_step.row was_step.deeds n l does.same way ∙ word_asks b does.due o i (Task.Sleep w) does.answer does.asked

    serial : serial_at (tickets b) (Object o) ≡ s
    serial = ap (λ q. option_map_or (λ (r : Row). r.serial) q 0) (at_row (tickets b) o ∙ sym lies.ticket)

    reached : word_at l (serial_at (tickets b) (Object o)) i ≡ w
    reached =
        ap (λ s. word_at l s i) serial
        ∙ ap (λ h. option_map_or (λ (p : ℕ × Row). word_of l p.1.block i) h 0) (sym (same_holder c.ledger.history l s both.same.ledgers))
        ∙ by_holder (holder_of c.ledger.history s) ∙ lies.reached
      where
        by_holder : (h : Option (ℕ × Row)) → option_map_or (λ (p : ℕ × Row). word_of l p.1.block i) h 0 ≡ option_map_or (λ (p : ℕ × Row). word_of c.ledger.history p.1.block i) h 0
        by_holder None = refl
        by_holder (Some p) = sym (both.same.ledgers.words p.1.block i)

    slept : (p : Option Sleep) × (was_step.deeds ≡ Sleeps (serial_at (tickets b) (Object o)) i w ∷ TimesOut p ∷ [])
    slept = slept_through n l (tickets b) way.left (made b.history) (Object o) (pos i) w does.answer was_step.row was_step.deeds up reached
        (ap (λ q. after (tickets b) q (shown was_step.deeds)) (sym asked) ∙ way.met) (ap (λ q. ticket_in q (shown was_step.deeds)) (sym asked) ∙ way.came) way.fit way.led

    shows : shown was_step.deeds ≡ TimesOut slept.0 ∷ []
    shows = ap shown slept.1

    -- the second half of what it did
    step : Step n b x.ledger.history y.ledger.history turn.after
    step = record {
      event = was_step.event;
      row = was_step.row;
      deeds = TimesOut slept.0 ∷ [];
      is = was_step.is;
      alike =
          through y.ledger.history (did n was_step.deeds l) (Acted n TimedOut ∷ x.ledger.history) was_step.alike
          (subst (λ k. Alike k (Acted n TimedOut ∷ x.ledger.history)) (sym (ap (λ ds. did n ds l) slept.1 ∙ ap (λ s. Acted n TimedOut ∷ Acted n (Slept s i w) ∷ l) serial))
          (after_one (Acted n (Slept s i w) ∷ l) x.ledger.history (Acted n TimedOut) (turned x.ledger.history (Acted n (Slept s i w) ∷ l) alike)));
      way = record {
        next = was_step.way.next;
        left = was_step.way.left;
        met = ap (λ ds. after (tickets b) (asked_by b was_step.event) ds) (sym shows) ∙ was_step.way.met;
        came = ap (ticket_in (asked_by b was_step.event)) (sym shows) ∙ was_step.way.came;
        sender = ap (refused_in (asked_by b was_step.event)) (sym shows) ∙ was_step.way.sender;
        fit = (ap (λ k. is_listed k n) lies.history ∙ last_listed n (waiters c.ledger.history) (waiter n (block_by c.ledger.history s) i) refl, tt);
        led = subst (λ t. Led (cond t (sleeping None) awake) (TimesOut slept.0 ∷ []) awake) (sym (ap (λ l. asleep l n) lies.history ∙ ap (λ t. cond t true (asleep c.ledger.history n)) (eq-eqb n n refl))) (awake, (tt, refl), refl);
      };
    }

-- what changes nothing that is told leaves it behind
pub stays_behind : (n : ℕ) (c d x : ClusterView) → Behind n c d → StandsBy AnyPlan x → Same x c → Behind n x d
stays_behind n c d x behind stands still = record {
  left = stands;
  right = behind.right;
  before = behind.before;
  after = behind.after;
  here = ap (λ bs. slice_get bs n) still.agents ∙ behind.here;
  sleeps = still.ledgers.asleep n ∙ behind.sleeps;
  turn = same_mover x c still ∙ behind.turn;
  agents = behind.agents ∙ ap (λ bs. slice_set bs n behind.after) (sym still.agents);
  number = still.number ∙ behind.number;
  step = step_from n behind.before behind.after x.ledger.history c.ledger.history d.ledger.history (turned x.ledger.history c.ledger.history still.ledgers) behind.step;
}

-- and once it times out they are together
pub catches_up : (n : ℕ) (c d x : ClusterView) → Behind n c d → Turned Moved n c x → Together x d
catches_up n c d x behind turn =
    let there : Some turn.before ≡ Some behind.before = sym turn.agent ∙ behind.here in
    let view : turn.before ≡ behind.before = cc in
    let one = subst (λ b. Step n b c.ledger.history x.ledger.history turn.after) view (step_of n c x behind.left turn) in
    let met = meet n behind.before turn.after behind.after c.ledger.history c.ledger.history x.ledger.history d.ledger.history (behind.left.each n behind.before behind.here).run (same c.ledger.history) one behind.step in
    record {
      left = stands_after Moved n c x behind.left turn;
      right = behind.right;
      same = record { agents = turn.agents ∙ ap (slice_set c.agents n) met.core ∙ sym behind.agents; number = turn.number ∙ behind.number; ledgers = met.ledgers };
    }
