-- An agent that has done something in the ledger that its history does not tell yet.
use Rattle.std.proofs.Common.{◌≡◌, ℕ, suc, zero, ◌<◌, ◌==◌, ◌&&◌, ◌||◌, Bool, true, false, cond, not, sym, ◌∙◌, ap, refl, subst, arith, List, [], ◌∷◌, ◌++◌, append-nil, append_assoc, eq-eqb, Option, Some, None, inl, inr}
use Rattle.std.specs.Prelude.{ℤ, is_some, reverse, unwrap_or}
use Rattle.std.specs.Option.{option_map, option_map_or}
use Rattle.std.proofs.lemmas.Bool.{cases_Bool, and_parts, eqb-true, eqb-false}
use Rattle.es_value.specs.declared.value.Value.{Value}
use Rattle.es_event.specs.declared.access.Task.{Task}
use Rattle.es_event.specs.declared.access.WaitResult.{WaitResult}
use Rattle.es_event.specs.declared.command.Command.{Command}
use Rattle.es_event.specs.declared.command.Command.TheVariants.{SharedArrayBuffer, Length, SameBlock, Atomic, Post}
use Rattle.es_event.specs.declared.event.Answer.{Answer}
use Rattle.es_event.specs.declared.event.Event.{Event}
use Rattle.es_event.specs.declared.ledger_event.Body.TheVariants.{Plain, Block}
use Rattle.es_event.specs.declared.plan.AgentPlan.{AgentPlan}
use Rattle.es_event.specs.declared.row.Row.{Row}
use Rattle.es_event.specs.Commands.{first}
use Rattle.es_event.specs.Heard.{wait_given}
use Rattle.es_event.specs.History.{History}
use Rattle.es_event.specs.Numbers.{index_of, task_of}
use Rattle.es_event.specs.Jobs.{job}
use Rattle.es_event.specs.declared.ledger_event.LedgerEvent.{LedgerEvent}
use Rattle.es_event.specs.declared.ledger_event.LedgerEvent.TheVariants.{Spent, Drained, Acted}
use Rattle.es_event.specs.declared.ledger_event.Act.TheVariants.{Waiting, Ended, Slept, Woke, TimedOut}
use Rattle.es_event.specs.Totals.{is_drained}
use Rattle.es_event.specs.Ledger.{Ledger, waits, ended as has_ended, is_end_of}
use Rattle.es_event.specs.Waiters.{asleep}
use Rattle.es_event.specs.LegalLedger.{ComesNext, LegalSoFar, LegalLedger, all_ended, owed}
use Rattle.es_event.specs.Order.{phase}
use Rattle.es_ledger.specs.LedgerView.{LedgerView}
use Rattle.es_match.specs.Asks.{Asking, to_open, to_receive, to_refuse, between_jobs, asks, asks_did, asks_wait, asks_word, given}
use Rattle.es_match.specs.Patience.{ends_sleep, patient, may_do, may_stir, is_patient, has_drained, drained_last, is_nobodys}
use Rattle.es_match.specs.Cluster.{DeedsMeet, awaited, is_refusal_asked, refused_senders}
use Rattle.es_match.specs.declared.deed.Sleep.{Sleep}
use Rattle.es_match.specs.Deeds.{Deed, Owned, Opens, Sleeps, Takes, Waits, deed, is_sleep, is_wait, part, sleep_of}
use Rattle.es_match.proofs.Sleeping.{has_a_sleep}
use Rattle.es_match.specs.Meets.{Tickets, after, came_after, opened_ticket, refused_in, taken_ticket, ticket_in}
use Rattle.es_record.specs.AgentView.{AgentView, Records, with_row}
use Rattle.es_rules.specs.Needs.{asks_message, need}
use Rattle.es_agent.specs.Tickets.{is_ended, tickets}
use Rattle.es_ticket.specs.Stakes.{StakeView}
use Rattle.es_cluster.specs.Midway.{IsHeld, IsReady, Midway, asks_to_sleep}
use Rattle.es_cluster.specs.Tied.{AsksFor, IsSettled, IsTied, came_to}
use Rattle.es_cluster.specs.Turned.{IsSeated}
use Rattle.es_cluster.proofs.Growing.{part_own, part_waits}

-- an agent that has its stake, with what makes it ready
pub whole : {b : AgentView} {s : StakeView} {l : LedgerView} → IsHeld b s l → IsSeated b l → IsTied b l.history → IsReady b s l
whole held seated tied = record { held = held.held; seated = seated; tied = tied; legal = held.legal; holder = held.holder }

-- Who is awake

-- an agent that does not ask to sleep
pub awake : (b : AgentView) (l : Ledger) → IsTied b l → asks_to_sleep (need b) ≡ false → asleep l b.number ≡ false
awake b l tied other = by_sleep (sleep_of l b.number) refl
  where
    by_sleep : (s : Option Sleep) → sleep_of l b.number ≡ s → asleep l b.number ≡ false
    by_sleep None is = sym (has_a_sleep l b.number) ∙ ap is_some is
    by_sleep (Some s) is = let clash : true ≡ false = sym (ap asks_to_sleep (tied.sleeps s is).1) ∙ other in cc

-- who is awake has no sleep
pub no_sleep : (l : Ledger) (a : ℕ) (s : Sleep) → asleep l a ≡ false → sleep_of l a ≡ Some s → ⊥
no_sleep l a s awake is = let clash : true ≡ false = sym (ap is_some is) ∙ has_a_sleep l a ∙ awake in cc

pub begun : (b : AgentView) (l : Ledger) → IsTied b l → asleep l b.number ≡ false → Midway b l []
begun b l tied awake = record {
  told = part l b.number;
  mine = tied.ties;
  split = sym (append-nil (part l b.number));
  awake = awake;
  waits_end = tied.waits_end;
  drains_end = tied.drains_end;
}

still_patient : (l : Ledger) (e : LedgerEvent) (n : ℕ) (d : Deed) → patient l ≡ true → deed l e ≡ Some (n, d) → may_do (waits l n) d ≡ true → asleep l n ≡ false → patient (e ∷ l) ≡ true
still_patient l e n d before is may awake =
    ap (λ o. is_patient l o && patient l) is ∙ ap (λ b. (b && may_stir (asleep l n) d) && patient l) may ∙ ap (λ b. may_stir b d && patient l) awake ∙ before

pub awake_if : (b asleep : Bool) → asleep ≡ false → cond b false asleep ≡ false
awake_if true asleep awake = refl
awake_if false asleep awake = awake

-- only by a sleep an agent is awake no more
pub still_awake : (l : Ledger) (e : LedgerEvent) (n : ℕ) (d : Deed) → deed l e ≡ Some (n, d) → is_sleep d ≡ false → asleep l n ≡ false → asleep (e ∷ l) n ≡ false
still_awake l (Acted c (Slept s i w)) n d is quick awake = let clash : true ≡ false = ap (λ (o : Owned). option_map_or (λ p. is_sleep p.1) o true) is ∙ quick in cc
still_awake l (Acted c Woke) n d is quick awake = awake_if (c == n) (asleep l n) awake
still_awake l (Acted c TimedOut) n d is quick awake = awake_if (c == n) (asleep l n) awake
still_awake l (Acted c Ended) n d is quick awake = awake_if (c == n) (asleep l n) awake
still_awake l _ n d is quick awake = awake

still_last : (l : Ledger) (e : LedgerEvent) (n : ℕ) (d : Deed) → drained_last l ≡ true → deed l e ≡ Some (n, d) → has_drained l ≡ false → drained_last (e ∷ l) ≡ true
still_last l e n d before is none = ap (λ o. (is_nobodys o || not (has_drained l)) && drained_last l) is ∙ ap (λ b. not b && drained_last l) none ∙ before

-- one more deed
pub does : (b : AgentView) (l m : Ledger) (ds : List Deed) (e : LedgerEvent) (d : Deed) → Midway b l ds → m ≡ e ∷ l → deed l e ≡ Some (b.number, d) → is_wait d ≡ false → is_sleep d ≡ false → may_do (waits l b.number) d ≡ true → has_drained l ≡ false
    → Midway b m (ds ++ d ∷ [])
does b l m ds e d mid more is w up may none = subst (λ m. Midway b m (ds ++ d ∷ [])) (sym more) (record {
  told = mid.told;
  mine = mid.mine;
  split = part_own l e b.number d is w ∙ ap (λ p. p ++ d ∷ []) mid.split ∙ append_assoc mid.told ds (d ∷ []);
  awake = still_awake l e b.number d is up mid.awake;
  waits_end = still_patient l e b.number d mid.waits_end is may mid.awake;
  drains_end = still_last l e b.number d mid.drains_end is none;
})

-- What comes with deeds

none_refused : (q : Asking) (ds : List Deed) → is_refusal_asked q ≡ false → refused_in q ds ≡ []
none_refused to_refuse ds is = cc
none_refused _ ds is = refl

-- the sender whose message found no room is the one that the job waits for
senders_more : (plan : AgentPlan) (h : History) (e : Event) (ds : List Deed) → (is_refusal_asked (asks (between_jobs h) e) ≡ true → awaited plan (job h) ≡ refused_in (asks (between_jobs h) e) ds)
    → refused_senders plan (e ∷ h) ≡ refused_senders plan h ++ refused_in (asks (between_jobs h) e) ds
senders_more plan h e ds named = ap (λ ns. refused_senders plan h ++ ns) (by_test (is_refusal_asked (asks (between_jobs h) e)) refl)
  where
    by_test : (b : Bool) → is_refusal_asked (asks (between_jobs h) e) ≡ b → cond b (awaited plan (job h)) [] ≡ refused_in (asks (between_jobs h) e) ds
    by_test true is = named is
    by_test false is = sym (none_refused (asks (between_jobs h) e) ds is)

-- no ticket comes with other deeds than an opening and the taking of a message with a block
abbrev pub brings_ticket : Deed → Bool
brings_ticket (Opens b w s) = true
brings_ticket (Takes u (Some (Block b s)) w) = true
brings_ticket _ = false

no_opened : (v : Value) (d : Deed) → brings_ticket d ≡ false → opened_ticket v d ≡ []
no_opened v (Opens b w s) is = cc
no_opened v _ is = refl

no_taken : (v : Value) (d : Deed) → brings_ticket d ≡ false → taken_ticket v d ≡ []
no_taken v (Takes u (Some (Block b s)) w) is = cc
no_taken v (Takes u (Some (Plain x)) w) is = refl
no_taken v (Takes u None w) is = refl
no_taken v _ is = refl

pub no_ticket : (q : Asking) (d : Deed) → brings_ticket d ≡ false → ticket_in q (d ∷ []) ≡ []
no_ticket (to_open n v) d is = no_opened v d is
no_ticket (to_receive s v) d is = no_taken v d is
no_ticket _ d is = refl

pub no_ticket_alone : (q : Asking) → ticket_in q [] ≡ []
no_ticket_alone (to_open n v) = refl
no_ticket_alone (to_receive s v) = refl
no_ticket_alone _ = refl

pub refused_alone : (t u : Tickets) (q : Asking) → after t q [] ≡ Some u → is_refusal_asked q ≡ false
refused_alone t u to_refuse met = cc
refused_alone t u _ met = refl

wait_not_refused : (v : Value) (j : ℤ) (w : ℕ) (e : WaitResult) → is_refusal_asked (asks_wait v j w e) ≡ false
wait_not_refused v j w WaitResult.Woken = refl
wait_not_refused v j w WaitResult.NotEqual = refl
wait_not_refused v j w WaitResult.TimedOut = refl

word_not_refused : (v : Value) (j : ℤ) (t : Task) (u : Value) → is_refusal_asked (asks_word v j t u) ≡ false
word_not_refused v j (Task.Access a) u = refl
word_not_refused v j (Task.Sleep w) u = wait_not_refused v j w (wait_given u)
word_not_refused v j (Task.Notify n) u = refl

pub did_not_refuse : (c : Command) (vs : List Value) (r : Answer) → is_refusal_asked (asks_did c vs r) ≡ false
did_not_refuse (SharedArrayBuffer to n) vs r = refl
did_not_refuse (Length to b) vs r = refl
did_not_refuse (SameBlock to b c) vs r = refl
did_not_refuse (Atomic a) vs r = word_not_refused (first vs) (index_of a vs) (task_of a vs) (given r)
did_not_refuse (Post a y) vs r = refl
did_not_refuse _ vs r = refl

-- nothing is refused, so nobody has to be named
pub unnamed : (b : AgentView) (q : Asking) (ds : List Deed) → is_refusal_asked q ≡ false → is_refusal_asked q ≡ true → awaited b.plan (job b.history) ≡ refused_in q ds
unnamed b q ds is other = let clash : false ≡ true = sym is ∙ other in cc

-- the history tells what was done
pub tells : (old new : AgentView) (row : Option Row) (l : Ledger) (ds : List Deed) (e : Event) → Midway old l ds → Records (with_row row old) e new
    → after (tickets old) (asks (between_jobs old.history) e) ds ≡ Some (tickets new)
    → reverse (with_row row old).over ≡ reverse old.over ++ ticket_in (asks (between_jobs old.history) e) ds
    → (is_refusal_asked (asks (between_jobs old.history) e) ≡ true → awaited old.plan (job old.history) ≡ refused_in (asks (between_jobs old.history) e) ds)
    → waits l old.number ≡ None → IsSettled new l
tells old new row l ds e mid records met came named free =
    let q = asks (between_jobs old.history) e in
    let grown : new.history ≡ e ∷ old.history = ap (λ b. b.history) records in
    let same : new.number ≡ old.number = ap (λ b. b.number) records in
    let ever : reverse new.over ≡ reverse old.over ++ ticket_in q ds = ap (λ b. reverse b.over) records ∙ came in
    let senders : refused_senders new.plan new.history ≡ refused_senders old.plan old.history ++ refused_in q ds = ap (λ b. refused_senders b.plan b.history) records ∙ senders_more old.plan old.history e ds named in
    let brought : came_after (came_to old) q ds ≡ Some (came_to new) =
    ap (option_map (λ t. record { tickets = t; ever = reverse old.over ++ ticket_in q ds; refused = refused_senders old.plan old.history ++ refused_in q ds })) met
    ∙ ap (λ v. Some (record { tickets = tickets new; ever = v; refused = refused_senders old.plan old.history ++ refused_in q ds })) (sym ever)
    ∙ ap (λ r. Some (record { tickets = tickets new; ever = reverse new.over; refused = r })) (sym senders)
    in
    record {
      tied = record {
        ties = subst (λ h. DeedsMeet h (part l new.number) (came_to new)) (sym grown) (mid.told, ds, came_to old, ap (part l) same ∙ mid.split, mid.mine, brought);
        awaits = λ s is. (let none : ◌≡◌ {A = Option ℕ} None (Some s) = sym free ∙ ap (waits l) (sym same) ∙ is in cc);
        sleeps = λ s is. absurd (no_sleep l old.number s mid.awake (ap (sleep_of l) (sym same) ∙ is));
        waits_end = mid.waits_end;
        drains_end = mid.drains_end;
      };
      free = ap (waits l) same ∙ free;
      awake = ap (asleep l) same ∙ mid.awake;
    }

-- the agent begins to wait
pub awaits : (b : AgentView) (l m : Ledger) (s : ℕ) → IsTied b l → m ≡ Acted b.number (Waiting s) ∷ l → waits l b.number ≡ None → has_drained l ≡ false → need b ≡ asks_message s → IsTied b m
awaits b l m s tied more free none is = subst (IsTied b) (sym more) (record {
  ties = subst (λ p. DeedsMeet b.history p (came_to b)) (sym (part_waits l (Acted b.number (Waiting s)) b.number b.number (Waits s) refl refl)) tied.ties;
  awaits = λ t w. is ∙ ap asks_message (awaited t w);
  sleeps = tied.sleeps;
  waits_end = still_patient l (Acted b.number (Waiting s)) b.number (Waits s) tied.waits_end refl (ap (λ w. may_do w (Waits s)) free) (awake b l tied (ap asks_to_sleep is));
  drains_end = still_last l (Acted b.number (Waiting s)) b.number (Waits s) tied.drains_end refl none;
})
  where
    awaited : (t : ℕ) → waits (Acted b.number (Waiting s) ∷ l) b.number ≡ Some t → s ≡ t
    awaited t w = let same : ◌≡◌ {A = Option ℕ} (Some s) (Some t) = sym (ap (λ c. cond c (Some s) (waits l b.number)) (eq-eqb b.number b.number refl)) ∙ w in cc

-- Sleeps

-- the agent begins to sleep
pub lies_down : (b : AgentView) (l m : Ledger) (s : Sleep) → IsTied b l → m ≡ Acted b.number (Slept s.serial s.index s.word) ∷ l → waits l b.number ≡ None → asleep l b.number ≡ false → has_drained l ≡ false → AsksFor b s → IsTied b m
lies_down b l m s tied more free awake none asks = subst (IsTied b) (sym more) (record {
  ties = subst (λ p. DeedsMeet b.history p (came_to b)) (sym (part_waits l e b.number b.number d refl refl)) tied.ties;
  awaits = λ t w. (let clash : ◌≡◌ {A = Option ℕ} None (Some t) = sym free ∙ w in cc);
  sleeps = λ t is. subst (AsksFor b) (let same : ◌≡◌ {A = Option Sleep} (Some s) (Some t) = sym (ap (λ c. cond c (Some s) (sleep_of l b.number)) (eq-eqb b.number b.number refl)) ∙ is in inner same) asks;
  waits_end = still_patient l e b.number d tied.waits_end refl (ap (λ w. may_do w d) free) awake;
  drains_end = still_last l e b.number d tied.drains_end refl none;
})
  where
    e : LedgerEvent
    e = Acted b.number (Slept s.serial s.index s.word)

    d : Deed
    d = Sleeps s.serial s.index s.word

    inner : {s t : Sleep} → ◌≡◌ {A = Option Sleep} (Some s) (Some t) → s ≡ t
    inner {s} is = ap (λ o. unwrap_or o s) is

-- an agent that sleeps goes on: by this deed, which ends its sleep
pub rises : (b : AgentView) (l m : Ledger) (e : LedgerEvent) (d : Deed) → IsTied b l → asleep l b.number ≡ true → m ≡ e ∷ l → deed l e ≡ Some (b.number, d) → is_wait d ≡ false → ends_sleep d ≡ true → asleep (e ∷ l) b.number ≡ false → waits l b.number ≡ None
    → has_drained l ≡ false → Midway b m (d ∷ [])
rises b l m e d tied sleeping more is w ends awake free none = subst (λ m. Midway b m (d ∷ [])) (sym more) (record {
  told = part l b.number;
  mine = tied.ties;
  split = part_own l e b.number d is w;
  awake = awake;
  waits_end =
      ap (λ o. is_patient l o && patient l) is ∙ ap (λ w. (may_do w d && may_stir (asleep l b.number) d) && patient l) free ∙ ap (λ b. may_stir b d && patient l) sleeping
      ∙ ap (λ b. b && patient l) ends ∙ tied.waits_end;
  drains_end = still_last l e b.number d tied.drains_end is none;
})

-- Who waits for nobody

pub free : (b : AgentView) (l : Ledger) → IsTied b l → ((s : ℕ) → need b ≡ asks_message s → ⊥) → waits l b.number ≡ None
free b l tied other = by_wait (waits l b.number) refl
  where
    by_wait : (w : Option ℕ) → waits l b.number ≡ w → waits l b.number ≡ None
    by_wait None is = is
    by_wait (Some s) is = absurd (other s (tied.awaits s is))

-- Nothing is drained while an agent goes on

pub still_over : (e : LedgerEvent) (l : Ledger) (n : ℕ) → all_ended l n ≡ true → all_ended (e ∷ l) n ≡ true
still_over e l zero over = refl
still_over e l (suc n) over =
    let each = and_parts (has_ended l n) (all_ended l n) over in
    ap (λ b. (is_end_of e n || b) && all_ended (e ∷ l) n) each.0 ∙ ap (λ b. (is_end_of e n || true) && b) (still_over e l n each.1) ∙ either (is_end_of e n)
  where
    either : (b : Bool) → ((b || true) && true) ≡ true
    either true = refl
    either false = refl

drained_next : (n : ℕ) (e : LedgerEvent) (l : Ledger) (o : Option ℕ) → ComesNext n l e o → is_drained e ≡ true → all_ended l n ≡ true
drained_next n (Drained s r) l None c is = c.0
drained_next n e l (Some k) c is = let spends : is_drained (Spent k) ≡ true = ap is_drained (sym c) ∙ is in cc
drained_next n _ l None c is = cc

pub over_where_drained : (n : ℕ) (l : Ledger) → LegalSoFar n l → has_drained l ≡ true → all_ended l n ≡ true
over_where_drained n [] legal is = cc
over_where_drained n (e ∷ l) legal is = still_over e l n (by_event (is_drained e) refl is (over_where_drained n l legal.1))
  where
    by_event : (b : Bool) → is_drained e ≡ b → (b || has_drained l) ≡ true → (has_drained l ≡ true → all_ended l n ≡ true) → all_ended l n ≡ true
    by_event true d o before = drained_next n e l (owed l) legal.0 d
    by_event false d o before = before o

pub ended_where_all : (l : Ledger) (n a : ℕ) → a < n → all_ended l n ≡ true → has_ended l a ≡ true
ended_where_all l zero a below over = absurd (omega (arith, below))
ended_where_all l (suc n) a below over =
    let each = and_parts (has_ended l n) (all_ended l n) over in
    elim (cases_Bool (a == n)) [
      | inl e ↦ ap (has_ended l) (eqb-true a n e) ∙ each.0
      | inr e ↦ let other = eqb-false a n e in ended_where_all l n a (omega (arith, below, other)) each.1
    ]

pub undrained : (b : AgentView) (l : LedgerView) → LegalLedger l.agents l.history → IsSeated b l → is_ended (phase b.history) ≡ false → has_drained l.history ≡ false
undrained b l legal seated going = by_drain (has_drained l.history) refl
  where
    by_drain : (d : Bool) → has_drained l.history ≡ d → has_drained l.history ≡ false
    by_drain false is = is
    by_drain true is =
        let over = ended_where_all l.history l.agents b.number seated.known (over_where_drained l.agents l.history legal.0 is) in
        let clash : true ≡ false = sym over ∙ seated.over ∙ going in cc
