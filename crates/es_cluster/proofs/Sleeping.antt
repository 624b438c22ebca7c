-- An agent asks to sleep at a word: what the ledger's history is then, and that the agent and its part in it go together.
use Rattle.std.proofs.Common.{◌≡◌, ℕ, ◌==◌, Bool, true, false, cond, eq-eqb, sym, ◌∙◌, ap, refl, subst, [], ◌∷◌, Option, Some, None}
use Rattle.std.proofs.lemmas.Bool.{eqb-true}
use Rattle.std.specs.Prelude.{is_some, pos}
use Rattle.std.specs.List.{Contains}
use Rattle.es_value.specs.declared.value.Value.TheVariants.{Object, Text}
use Rattle.es_event.specs.declared.access.Change.{Change}
use Rattle.es_event.specs.declared.access.Task.{Task}
use Rattle.es_event.specs.declared.access.WaitResult.{WaitResult}
use Rattle.es_event.specs.declared.event.Answer.TheVariants.{Gives}
use Rattle.es_event.specs.declared.ledger_event.LedgerEvent.{LedgerEvent}
use Rattle.es_event.specs.declared.ledger_event.LedgerEvent.TheVariants.{Accessed, Acted}
use Rattle.es_event.specs.declared.ledger_event.Act.TheVariants.{Slept, TimedOut, Woke}
use Rattle.es_event.specs.declared.row.Row.{Row}
use Rattle.es_event.specs.Access.{wait_text}
use Rattle.es_event.specs.Ledger.{Ledger, ended, holder_of, waits, word}
use Rattle.es_event.specs.LegalLedger.{is_chosen}
use Rattle.es_event.specs.Waiters.{asleep, is_listed}
use Rattle.es_ledger.specs.LedgerView.{LedgerView}
use Rattle.es_ledger.specs.Sleeps.{rested, roused, told_so}
use Rattle.es_ledger.specs.declared.turn.Turn.{Turn}
use Rattle.es_ledger.specs.declared.turn.Turn.TheVariants.{Ready, Stay, Skip}
use Rattle.es_match.specs.Asks.{asks_wait, to_sleep}
use Rattle.es_match.specs.Deeds.{Deed, Accesses, Sleeps, TimesOut, Wakes, deed, is_wait, sleep_of}
use Rattle.es_match.specs.declared.deed.Sleep.{Sleep}
use Rattle.es_match.specs.Meets.{after, is_end_of_sleep, is_sleep_at, some_if}
use Rattle.es_match.specs.Patience.{ends_sleep, has_drained}
use Rattle.es_match.proofs.Sleeping.{has_a_sleep}
use Rattle.es_ticket.specs.Stakes.{StakeView, at}
use Rattle.es_record.specs.AgentView.{AgentView}
use Rattle.es_rules.specs.Needs.{for_word, asks_ledger, asks_message, need}
use Rattle.es_agent.specs.Tickets.{DoesWith, tickets}
use Rattle.es_cluster.specs.Midway.{IsHeld, IsReady, wait_result}
use Rattle.es_cluster.specs.Tied.{GrowsBy, IsSettled, IsTied}
use Rattle.es_cluster.specs.Turned.{SleepsOn, WaitsRightly}
use Rattle.es_cluster.specs.declared.member.Progress.TheVariants.{Moved}
use Rattle.es_cluster.proofs.Aims.{open_for}
use Rattle.es_cluster.proofs.Asking.{due_command, ended_so, sleep_met, this_ticket, word_asks}
use Rattle.es_cluster.proofs.Growing.{by_ticket, grows_none, grows_on, grows_one}
use Rattle.es_cluster.proofs.Midway.{brings_ticket, free, lies_down, rises, undrained}
use Rattle.es_cluster.proofs.Tying.{miss_ties, told_done}

-- Its sleep

pub a_sleep : (l : Ledger) (a : ℕ) → asleep l a ≡ true → (q : Sleep) × (sleep_of l a ≡ Some q)
a_sleep l a sleeping = by (sleep_of l a) refl
  where
    by : (o : Option Sleep) → sleep_of l a ≡ o → (q : Sleep) × (sleep_of l a ≡ Some q)
    by None is = let clash : false ≡ true = sym (ap is_some is) ∙ has_a_sleep l a ∙ sleeping in cc
    by (Some q) is = (q, is)

same_word : (o i w p j v : ℕ) → asks_ledger (for_word o i (Task.Sleep w)) ≡ asks_ledger (for_word p j (Task.Sleep v)) → (o ≡ p) × (i ≡ j) × (w ≡ v)
same_word o i w p j v is = (cc, cc, cc)

-- it is the one that the agent asks for
fits : (b : AgentView) (l : Ledger) (o i w : ℕ) (q : Sleep) → IsTied b l → sleep_of l b.number ≡ Some q → need b ≡ asks_ledger (for_word o i (Task.Sleep w)) → is_sleep_at (tickets b) (Object o) (pos i) w (sleep_of l b.number) ≡ true
fits b l o i w q tied found is =
    let asks = tied.sleeps q found in
    let same = same_word asks.0 q.index q.word o i w (sym asks.1 ∙ is) in
    ap (is_sleep_at (tickets b) (Object o) (pos i) w) found
    ∙ subst (λ o. is_sleep_at (tickets b) (Object o) (pos i) w (Some q) ≡ true) same.0
    (subst (λ i. is_sleep_at (tickets b) (Object asks.0) (pos i) w (Some q) ≡ true) same.1 (sleep_met (tickets b) asks.0 w q asks.2 same.2))

waits_for_nobody : (b : AgentView) (l : Ledger) (o i w : ℕ) → IsTied b l → need b ≡ asks_ledger (for_word o i (Task.Sleep w)) → waits l b.number ≡ None
waits_for_nobody b l o i w tied is = free b l tied (λ s other. let clash : asks_ledger (for_word o i (Task.Sleep w)) ≡ asks_message s = sym is ∙ other in cc)

-- It goes on

-- by this event, which ends its sleep so
woken : (old new : AgentView) (l m : Ledger) (o i w : ℕ) (e : WaitResult) (x : LedgerEvent) (d : Deed) → IsTied old l → asleep l old.number ≡ true → has_drained l ≡ false → need old ≡ asks_ledger (for_word o i (Task.Sleep w))
    → m ≡ x ∷ l → deed l x ≡ Some (old.number, d) → is_wait d ≡ false → ends_sleep d ≡ true → asleep (x ∷ l) old.number ≡ false → waits (x ∷ l) old.number ≡ waits l old.number → brings_ticket d ≡ false
    → asks_wait (Object o) (pos i) w e ≡ to_sleep (Object o) (pos i) w e → is_end_of_sleep (tickets old) (Object o) (pos i) w e d ≡ is_sleep_at (tickets old) (Object o) (pos i) w (sleep_of l old.number)
    → DoesWith old (Gives (Text (wait_text e))) new → IsSettled new m
woken old new l m o i w e x d tied sleeping none is more did quick ends awake same bare slept end done =
    let nobody = waits_for_nobody old l o i w tied is in
    let sleep = a_sleep l old.number sleeping in
    told_done old new m d (Gives (Text (wait_text e))) (rises old l m x d tied sleeping more did quick ends awake nobody none) done bare
    (ap (λ q. after (tickets old) q (d ∷ [])) (word_asks old done.1.0 o i (Task.Sleep w) (Gives (Text (wait_text e))) (due_command old done.1.1.0 done.1.0 (for_word o i (Task.Sleep w)) done.1.1.1 is) ∙ ended_so (Object o) (pos i) w e ∙ slept)
    ∙ ap (λ b. some_if b (tickets old)) (end ∙ fits old l o i w sleep.0 tied sleep.1 is))
    (ap (λ m. waits m old.number) more ∙ same ∙ nobody)

itself : (a : ℕ) (b : Bool) → cond (a == a) false b ≡ false
itself a b = ap (λ t. cond t false b) (eq-eqb a a refl)

-- where its sleep was judged
roused_ties : (old new : AgentView) (l m : Ledger) (n o i w : ℕ) (e : WaitResult) → IsTied old l → asleep l old.number ≡ true → has_drained l ≡ false → need old ≡ asks_ledger (for_word o i (Task.Sleep w))
    → m ≡ (roused l n old.number).1 → wait_result (Some (roused l n old.number).0) ≡ Some e → DoesWith old (Gives (Text (wait_text e))) new → IsSettled new m
roused_ties old new l m n o i w e tied sleeping none is = by (is_listed l old.number) (is_chosen l n old.number)
  where
    by : (x y : Bool) → m ≡ (cond {A = Turn × Ledger} x (cond y (Skip, Acted old.number TimedOut ∷ l) (Stay, l)) (Ready, Acted old.number Woke ∷ l)).1
        → wait_result (Some (cond {A = Turn × Ledger} x (cond y (Skip, Acted old.number TimedOut ∷ l) (Stay, l)) (Ready, Acted old.number Woke ∷ l)).0) ≡ Some e → DoesWith old (Gives (Text (wait_text e))) new → IsSettled new m
    by true true more so done =
        let result : WaitResult.TimedOut ≡ e = cc in
        woken old new l m o i w WaitResult.TimedOut (Acted old.number TimedOut) (TimesOut (sleep_of l old.number)) tied sleeping none is more refl refl refl (itself old.number (asleep l old.number)) refl refl refl refl
        (subst (λ e. DoesWith old (Gives (Text (wait_text e))) new) (sym result) done)
    by true false more so done = let clash : ◌≡◌ {A = Option WaitResult} None (Some e) = so in cc
    by false y more so done =
        let result : WaitResult.Woken ≡ e = cc in
        woken old new l m o i w WaitResult.Woken (Acted old.number Woke) (Wakes (sleep_of l old.number)) tied sleeping none is more refl refl refl (itself old.number (asleep l old.number)) refl refl refl refl
        (subst (λ e. DoesWith old (Gives (Text (wait_text e))) new) (sym result) done)

pub roused_stays : (l m : Ledger) (n a : ℕ) → m ≡ (roused l n a).1 → (roused l n a).0 ≡ Stay → m ≡ l
roused_stays l m n a = by (is_listed l a) (is_chosen l n a)
  where
    by : (x y : Bool) → m ≡ (cond {A = Turn × Ledger} x (cond y (Skip, Acted a TimedOut ∷ l) (Stay, l)) (Ready, Acted a Woke ∷ l)).1 → (cond {A = Turn × Ledger} x (cond y (Skip, Acted a TimedOut ∷ l) (Stay, l)) (Ready, Acted a Woke ∷ l)).0 ≡ Stay → m ≡ l
    by true true more stay = let clash : Skip ≡ Stay = stay in cc
    by true false more stay = more
    by false y more stay = let clash : Ready ≡ Stay = stay in cc

-- What it is told

-- the ledger in which its sleep has begun
abbrev pub begun_at : Ledger → ℕ → Row → ℕ → ℕ → Ledger
begun_at l a r i w = Acted a (Slept r.serial i w) ∷ l

-- one that asks to sleep is told of the sleep that it had; or nothing, as it waits for a message; or of the sleep that it begins; or that
-- another word is there
pub by_rest : {P : Type 0} (t : Option Turn) (m l : Ledger) (n a i w : ℕ) (r : Row) → ◌≡◌ {A = Option Turn × Ledger} (t, m) (rested l n a r i w)
    → (asleep l a ≡ true → t ≡ Some (roused l n a).0 → m ≡ (roused l n a).1 → P)
    → (is_some (waits l a) ≡ true → t ≡ Some Stay → m ≡ l → P)
    → (asleep l a ≡ false → word l r.block i ≡ w → t ≡ Some (roused (begun_at l a r i w) n a).0 → m ≡ (roused (begun_at l a r i w) n a).1 → P)
    → (asleep l a ≡ false → (word l r.block i == w) ≡ false → t ≡ None → m ≡ Accessed r.serial i Change.Keep (word l r.block i) ∷ l → P)
    → P
by_rest {P} t m l n a i w r is slept waiting lies misses = by (asleep l a) (is_some (waits l a)) (word l r.block i == w) refl refl refl is
  where
    by : (x y z : Bool) → asleep l a ≡ x → is_some (waits l a) ≡ y → (word l r.block i == w) ≡ z
        → ◌≡◌ {A = Option Turn × Ledger} (t, m) (cond x (told_so (roused l n a)) (cond y (Some Stay, l) (cond z (told_so (roused (begun_at l a r i w) n a)) (None, Accessed r.serial i Change.Keep (word l r.block i) ∷ l)))) → P
    by true y z x f g is = slept x (ap (λ p. p.0) is) (ap (λ p. p.1) is)
    by false true z x f g is = waiting f (ap (λ p. p.0) is) (ap (λ p. p.1) is)
    by false false true x f g is = lies x (eqb-true (word l r.block i) w g) (ap (λ p. p.0) is) (ap (λ p. p.1) is)
    by false false false x f g is = misses x g (ap (λ p. p.0) is) (ap (λ p. p.1) is)

-- where its sleep has begun, agent and ledger go together
begun_ties : (b : AgentView) (s : StakeView) (l : LedgerView) (o i w : ℕ) (r : Row) → IsReady b s l → need b ≡ asks_ledger (for_word o i (Task.Sleep w)) → Some r ≡ at o (tickets b) → asleep l.history b.number ≡ false
    → IsTied b (begun_at l.history b.number r i w)
begun_ties b s l o i w r ready is here awake =
    lies_down b l.history (begun_at l.history b.number r i w) (record { serial = r.serial; index = i; word = w }) ready.tied refl (waits_for_nobody b l.history o i w ready.tied is) awake
    (undrained b l ready.legal ready.seated (open_for b (asks_ledger (for_word o i (Task.Sleep w))) (λ f. cc) is)) (o, is, this_ticket (tickets b) o r here)

pub no_message : {P : Type 0} (b : AgentView) (l : Ledger) (o i w : ℕ) → IsTied b l → need b ≡ asks_ledger (for_word o i (Task.Sleep w)) → is_some (waits l b.number) ≡ true → P
no_message b l o i w tied is waiting = let clash : true ≡ false = sym waiting ∙ ap is_some (waits_for_nobody b l o i w tied is) in cc

same_turn : (t : Option Turn) (u : Turn) (e : WaitResult) → t ≡ Some u → wait_result t ≡ Some e → wait_result (Some u) ≡ Some e
same_turn t u e is so = sym (ap wait_result is) ∙ so

pub sleeps_now : (a : ℕ) (b : Bool) → cond (a == a) true b ≡ true
sleeps_now a b = ap (λ t. cond t true b) (eq-eqb a a refl)

-- it goes on
pub rested_ties : (old new : AgentView) (s : StakeView) (l : LedgerView) (m : Ledger) (o i w : ℕ) (r : Row) (t : Option Turn) (e : WaitResult) → IsReady old s l → need old ≡ asks_ledger (for_word o i (Task.Sleep w)) → Contains s.rows r
    → Some r ≡ at o (tickets old) → ◌≡◌ {A = Option Turn × Ledger} (t, m) (rested l.history l.agents old.number r i w) → wait_result t ≡ Some e → DoesWith old (Gives (Text (wait_text e))) new → IsSettled new m
rested_ties old new s l m o i w r t e ready is mine here heard so done =
    let dry = undrained old l ready.legal ready.seated (open_for old (asks_ledger (for_word o i (Task.Sleep w))) (λ f. cc) is) in
    by_rest t m l.history l.agents old.number i w r heard
    (λ sleeping told more. roused_ties old new l.history m l.agents o i w e ready.tied sleeping dry is more (same_turn t _ e told so) done)
    (λ waiting told more. no_message old l.history o i w ready.tied is waiting)
    (λ awake there told more. roused_ties old new (begun_at l.history old.number r i w) m l.agents o i w e (begun_ties old s l o i w r ready is here awake) (sleeps_now old.number (asleep l.history old.number)) dry is more (same_turn t _ e told so) done)
    (λ awake other told more.
    let result : WaitResult.NotEqual ≡ e = (let both : Some WaitResult.NotEqual ≡ Some e = sym (ap wait_result told) ∙ so in cc) in
    miss_ties old new s l m o i w (word l.history r.block i) r ready is awake mine here other more (subst (λ e. DoesWith old (Gives (Text (wait_text e))) new) (sym result) done))

pub some_turn : (u : Turn) → ◌≡◌ {A = Option Turn} (Some Stay) (Some u) → u ≡ Stay
some_turn u is = cc

-- it sleeps on
pub resting_ties : (b : AgentView) (s : StakeView) (l : LedgerView) (m : Ledger) (o i w : ℕ) (r : Row) → IsReady b s l → need b ≡ asks_ledger (for_word o i (Task.Sleep w)) → Some r ≡ at o (tickets b)
    → ◌≡◌ {A = Option Turn × Ledger} (Some Stay, m) (rested l.history l.agents b.number r i w) → IsTied b m
resting_ties b s l m o i w r ready is here heard =
    by_rest (Some Stay) m l.history l.agents b.number i w r heard
    (λ sleeping told more. subst (IsTied b) (sym (roused_stays l.history m l.agents b.number more (some_turn _ told))) ready.tied)
    (λ waiting told more. subst (IsTied b) (sym more) ready.tied)
    (λ awake there told more. subst (IsTied b) (sym (roused_stays (begun_at l.history b.number r i w) m l.agents b.number more (some_turn _ told))) (begun_ties b s l o i w r ready is here awake))
    (λ awake other told more. let clash : ◌≡◌ {A = Option Turn} (Some Stay) None = told in cc)

-- What it did are its deeds

pub record Rested (a : ℕ) (l m : Ledger) : Type 0 where
  pub grows : GrowsBy a l m
  pub ends : ended m a ≡ ended l a

roused_grows : (l m : Ledger) (n a : ℕ) → m ≡ (roused l n a).1 → Rested a l m
roused_grows l m n a = by (is_listed l a) (is_chosen l n a)
  where
    by : (x y : Bool) → m ≡ (cond {A = Turn × Ledger} x (cond y (Skip, Acted a TimedOut ∷ l) (Stay, l)) (Ready, Acted a Woke ∷ l)).1 → Rested a l m
    by true true more = record { grows = grows_one a l m (Acted a TimedOut) (TimesOut (sleep_of l a)) more refl; ends = ap (λ m. ended m a) more }
    by true false more = subst (Rested a l) (sym more) (record { grows = grows_none a l; ends = refl })
    by false y more = record { grows = grows_one a l m (Acted a Woke) (Wakes (sleep_of l a)) more refl; ends = ap (λ m. ended m a) more }

pub rested_grows : (l m : Ledger) (n a i w : ℕ) (r : Row) (t : Option Turn) → holder_of l r.serial ≡ Some (a, r) → ◌≡◌ {A = Option Turn × Ledger} (t, m) (rested l n a r i w) → Rested a l m
rested_grows l m n a i w r t held heard =
    by_rest t m l n a i w r heard
    (λ sleeping told more. roused_grows l m n a more)
    (λ waiting told more. subst (Rested a l) (sym more) (record { grows = grows_none a l; ends = refl }))
    (λ awake there told more.
    let begins = grows_one a l (begun_at l a r i w) (Acted a (Slept r.serial i w)) (Sleeps r.serial i w) refl refl in
    let then = roused_grows (begun_at l a r i w) m n a more in
    record { grows = grows_on a l (begun_at l a r i w) m begins then.grows; ends = then.ends })
    (λ awake other told more.
    record {
      grows = grows_one a l m (Accessed r.serial i Change.Keep (word l r.block i)) (Accesses r.serial i Change.Keep (word l r.block i)) more (by_ticket l r.serial a r (Accesses r.serial i Change.Keep (word l r.block i)) held);
      ends = ap (λ m. ended m a) more;
    })

-- Who goes on was not told to sleep on

pub goes_on_at : (b : AgentView) (l m : LedgerView) (o i w : ℕ) (r : Row) (t : Option Turn) (e : WaitResult) (k : Ledger) → need b ≡ asks_ledger (for_word o i (Task.Sleep w)) → Some r ≡ at o (tickets b)
    → ◌≡◌ {A = Option Turn × Ledger} (t, k) (rested l.history l.agents b.number r i w) → wait_result t ≡ Some e → WaitsRightly Moved b l m
goes_on_at b l m o i w r t e k is here heard so = (
  λ s asks. let clash : asks_ledger (for_word o i (Task.Sleep w)) ≡ asks_message s = sym is ∙ asks in cc,
  λ p j v q asks there stays.
      let same = same_word o i w p j v (sym is ∙ asks) in
      let row : r ≡ q = (let both : Some r ≡ Some q = here ∙ ap (λ o. at o (tickets b)) same.0 ∙ sym there in cc) in
      let told : t ≡ Some Stay = ap (λ p. p.0) heard ∙ ap (λ q. (rested l.history l.agents b.number q i w).0) row ∙ ap (λ j. (rested l.history l.agents b.number q j w).0) same.1 ∙ ap (λ v. (rested l.history l.agents b.number q j v).0) same.2 ∙ stays in
      let clash : ◌≡◌ {A = Option WaitResult} None (Some e) = sym (ap wait_result told) ∙ so in
      cc,
)

-- What a turn of one that asks to sleep leaves

pub stays_told : (t : Option Turn) → wait_result t ≡ None → t ≡ Some Stay
stays_told None is = cc
stays_told (Some Ready) is = cc
stays_told (Some Stay) is = refl
stays_told (Some Skip) is = cc

-- the same, told to its stake's agent
pub told_here : (b : AgentView) (s : StakeView) (l : LedgerView) (m : Ledger) (i w : ℕ) (r : Row) (t : Option Turn) → s.agent ≡ b.number → ◌≡◌ {A = Option Turn × Ledger} (t, m) (rested l.history l.agents s.agent r i w)
    → ◌≡◌ {A = Option Turn × Ledger} (t, m) (rested l.history l.agents b.number r i w)
told_here b s l m i w r t same heard = subst (λ n. ◌≡◌ {A = Option Turn × Ledger} (t, m) (rested l.history l.agents n r i w)) same heard

pub rested_here : (b : AgentView) (s : StakeView) (l : LedgerView) (m : Ledger) (i w : ℕ) (r : Row) (t : Option Turn) → IsHeld b s l → Contains s.rows r → ◌≡◌ {A = Option Turn × Ledger} (t, m) (rested l.history l.agents s.agent r i w) → Rested b.number l.history m
rested_here b s l m i w r t ready mine heard =
    rested_grows l.history m l.agents b.number i w r t (ready.holder r mine ∙ ap (λ n. Some (n, r)) ready.held.0) (told_here b s l m i w r t ready.held.0 heard)

-- it sleeps on
pub sleeps_on_so : (b : AgentView) (s : StakeView) (l m : LedgerView) (o i w : ℕ) (r : Row) (t : Option Turn) → s.agent ≡ b.number → need b ≡ asks_ledger (for_word o i (Task.Sleep w)) → Some r ≡ at o (tickets b)
    → ◌≡◌ {A = Option Turn × Ledger} (t, m.history) (rested l.history l.agents s.agent r i w) → wait_result t ≡ None → SleepsOn b l m
sleeps_on_so b s l m o i w r t same is here heard none =
    (o, i, w, r, is, here, subst (λ t. ◌≡◌ {A = Option Turn × Ledger} (t, m.history) (rested l.history l.agents b.number r i w)) (stays_told t none) (told_here b s l m.history i w r t same heard))

pub resting_so : (b : AgentView) (s : StakeView) (l : LedgerView) (m : Ledger) (o i w : ℕ) (r : Row) (t : Option Turn) → IsReady b s l → need b ≡ asks_ledger (for_word o i (Task.Sleep w)) → Some r ≡ at o (tickets b)
    → ◌≡◌ {A = Option Turn × Ledger} (t, m) (rested l.history l.agents s.agent r i w) → wait_result t ≡ None → IsTied b m
resting_so b s l m o i w r t ready is here heard none =
    resting_ties b s l m o i w r ready is here (subst (λ t. ◌≡◌ {A = Option Turn × Ledger} (t, m) (rested l.history l.agents b.number r i w)) (stays_told t none) (told_here b s l m i w r t ready.held.0 heard))
