-- A turn of an agent from two clusters that tell the same: both go on to clusters that tell the same.
use Rattle.std.proofs.Common.{◌≡◌, ℕ, ◌+◌, ◌==◌, Bool, true, false, cond, sym, ◌∙◌, ap, refl, subst, List, [], ◌∷◌, ◌++◌, append-nil, append_assoc, reverse, Option, Some, None, is_some}
use Rattle.std.specs.Prelude.{if◌then◌else◌}
use Rattle.std.specs.Option.{option_map_or}
use Rattle.std.proofs.lemmas.Bool.{and_parts, eq-eqb, false≢true}
use Rattle.std.proofs.lemmas.List.{reverse-append, append_cancel_left}
use Rattle.es_event.specs.declared.event.Event.{Event}
use Rattle.es_event.specs.declared.ledger_event.LedgerEvent.{LedgerEvent}
use Rattle.es_event.specs.declared.ledger_event.Act.TheVariants.{Slept, Waiting}
use Rattle.es_event.specs.declared.ledger_event.LedgerEvent.TheVariants.{Acted, Drained}
use Rattle.es_event.specs.declared.row.Row.{Row}
use Rattle.es_event.specs.Identities.{made}
use Rattle.es_event.specs.Jobs.{job}
use Rattle.es_event.specs.Ledger.{Ledger, waits}
use Rattle.es_event.specs.Waiters.{asleep}
use Rattle.es_ledger.proofs.Waking.{listed_asleep}
use Rattle.es_match.specs.declared.deed.Sleep.{Sleep}
use Rattle.es_event.specs.LegalLedger.{ComesNext, LegalSoFar, MayCome, owed}
use Rattle.es_match.specs.Cluster.{DeedsMeet, awaited, is_refusal_asked, refused_senders}
use Rattle.es_match.specs.Deeds.{Deed, Opens, Posts, Takes, Spends, Accesses, Waits, Passes, Ends, Sleeps, Notifies, Wakes, TimesOut, Owned, deed, is_wait, part, sleep_of}
use Rattle.es_match.specs.Patience.{ends_sleep, is_patient, may_do, may_stir, patient}
use Rattle.es_match.proofs.Sleeping.{has_a_sleep}
use Rattle.es_match.specs.Meets.{Tickets, after, refused_in, ticket_in}
use Rattle.es_match.proofs.Bridge.{mapped}
use Rattle.es_record.specs.AgentView.{AgentView, IsNext, with_row}
use Rattle.es_agent.specs.Tickets.{tickets}
use Rattle.es_cluster.specs.Tied.{AreDeedsOf, GrowsBy, came_to}
use Rattle.es_cluster.proofs.Growing.{part_own, part_waits}
use Rattle.es_theorems.specs.Alike.{Alike}
use Rattle.es_theorems.specs.Calm.{Calm, has_sleep}
use Rattle.es_theorems.specs.Doing.{AllFit, Fits, did, event_of}
use Rattle.es_theorems.specs.Move.{Move, asked_by}
use Rattle.es_theorems.specs.Rousing.{IsIn, Leads, Led, MayEnd, State, Way, awake, shown, sleeping, state_at}
use Rattle.es_theorems.specs.Settled.{came_row}
use Rattle.es_theorems.proofs.Doing.{all_fit_more, did_more, fits_same, meant}
use Rattle.es_theorems.proofs.Newest.{came_next}
use Rattle.es_theorems.proofs.Rousing.{all_shown, led_more, rest_calm, shown_more, sleep_by}
use Rattle.es_theorems.proofs.Telling.{after_one, after_wait, same, through}

-- What an agent does, deed by deed

-- from l to m it did these deeds, waits left out
pub record Done (n : ℕ) (l m : Ledger) : Type 0 where
  pub deeds : List Deed
  pub part_is : part m n ≡ part l n ++ deeds
  pub fit : AllFit n deeds l
  pub alike : Alike m (did n deeds l)

-- no ticket of a drained message is owed after a deed of an agent
pub owes_nothing : (l : Ledger) (e : LedgerEvent) (n : ℕ) (d : Deed) → deed l e ≡ Some (n, d) → owed (e ∷ l) ≡ None
owes_nothing l (Drained s r) n d is = cc
owes_nothing l _ n d is = refl

pub still_owes_nothing : (n : ℕ) (l : Ledger) (es : List LedgerEvent) → AreDeedsOf n es l → owed l ≡ None → owed (es ++ l) ≡ None
still_owes_nothing n l [] are none = none
still_owes_nothing n l (e ∷ es) are none = owes_nothing (es ++ l) e n are.0.0 are.0.1

-- The same, with the sleeps that it begins

-- from l to m it did these deeds, waits left out, and then it is in this state
pub record DoneAll (n : ℕ) (l m : Ledger) : Type 0 where
  pub deeds : List Deed
  pub part_is : part m n ≡ part l n ++ shown deeds
  pub fit : AllFit n deeds l
  pub alike : Alike m (did n deeds l)
  pub last : State
  pub led : Led (state_at l n) deeds last
  pub is : IsIn last m n

same_state : (v : State) (l m : Ledger) (n : ℕ) → sleep_of m n ≡ sleep_of l n → IsIn v l n → IsIn v m n
same_state awake l m n same is = same ∙ is
same_state (sleeping None) l m n same is = (is.0, same ∙ is.1)
same_state (sleeping (Some s)) l m n same is = same ∙ is

sleeps_here : (l : Ledger) (n : ℕ) (s : Sleep) → sleep_of l n ≡ Some s → asleep l n ≡ true
sleeps_here l n s is = sym (has_a_sleep l n) ∙ ap is_some is

up_here : (l : Ledger) (n : ℕ) → sleep_of l n ≡ None → asleep l n ≡ false
up_here l n is = sym (has_a_sleep l n) ∙ ap is_some is

state_now : (l : Ledger) (n : ℕ) (o : Option Sleep) (t : Bool) → sleep_of l n ≡ o → is_some o ≡ t → IsIn (if t then sleeping None else awake) l n
state_now l n None true o is = cc
state_now l n None false o is = o
state_now l n (Some s) true o is = (s, o)
state_now l n (Some s) false o is = cc

stirs : (l : Ledger) (n : ℕ) (d : Deed) → is_patient l (Some (n, d)) ≡ true → asleep l n ≡ true → ends_sleep d ≡ true
stirs l n d patient sleeps = sym (ap (λ t. may_stir t d) sleeps) ∙ (and_parts (may_do (waits l n) d) (may_stir (asleep l n) d) patient).1

-- who does something else than to end its sleep is awake
is_up : (v : State) (l : Ledger) (n : ℕ) (d : Deed) → IsIn v l n → ends_sleep d ≡ false → is_patient l (Some (n, d)) ≡ true → v ≡ awake
is_up awake l n d is goes patient = refl
is_up (sleeping None) l n d is goes patient = absurd (false≢true (sym goes ∙ stirs l n d patient (sleeps_here l n is.0 is.1)))
is_up (sleeping (Some s)) l n d is goes patient = absurd (false≢true (sym goes ∙ stirs l n d patient (sleeps_here l n s is)))

is_none : (v : State) (l : Ledger) (n : ℕ) → v ≡ awake → IsIn v l n → sleep_of l n ≡ None
is_none v l n up is = subst (λ v. IsIn v l n) up is

may_end : (v : State) (l : Ledger) (n : ℕ) (p : Option Sleep) → IsIn v l n → asleep l n ≡ true → sleep_of l n ≡ p → MayEnd v p
may_end awake l n p is sleeps its = absurd (false≢true (sym (up_here l n is) ∙ sleeps))
may_end (sleeping None) l n p is sleeps its = tt
may_end (sleeping (Some s)) l n p is sleeps its = sym its ∙ is

done_nothing : (n : ℕ) (l : Ledger) → DoneAll n l l
done_nothing n l = record {
  deeds = [];
  part_is = sym (append-nil (part l n));
  fit = tt;
  alike = same l;
  last = state_at l n;
  led = refl;
  is = state_now l n (sleep_of l n) (asleep l n) refl (has_a_sleep l n);
}

-- one more that is shown
shown_next : (n : ℕ) (l m : Ledger) (d : Deed) (v : State) (x : DoneAll n l m) → deed m (event_of n d) ≡ Some (n, d) → Fits m n d → is_wait d ≡ false → shown (d ∷ []) ≡ d ∷ [] → Leads x.last d v → IsIn v (event_of n d ∷ m) n
    → DoneAll n l (event_of n d ∷ m)
shown_next n l m d v x is fits wait shows leads now = record {
  deeds = x.deeds ++ d ∷ [];
  part_is = part_own m (event_of n d) n d is wait ∙ ap (λ p. p ++ d ∷ []) x.part_is ∙ append_assoc (part l n) (shown x.deeds) (d ∷ []) ∙ ap (λ ds. part l n ++ (shown x.deeds ++ ds)) (sym shows) ∙ ap (λ ds. part l n ++ ds) (sym (shown_more x.deeds d));
  fit = all_fit_more l n x.deeds d x.fit (fits_same m (did n x.deeds l) n d x.alike fits);
  alike = subst (Alike (event_of n d ∷ m)) (sym (did_more l n x.deeds d)) (after_one m (did n x.deeds l) (event_of n d) x.alike);
  last = v;
  led = led_more (state_at l n) x.last v x.deeds d x.led leads;
  is = now;
}

-- one that ends no sleep
plainly : (n : ℕ) (l m : Ledger) (d : Deed) (x : DoneAll n l m) → deed m (event_of n d) ≡ Some (n, d) → Fits m n d → is_patient m (Some (n, d)) ≡ true → is_wait d ≡ false → shown (d ∷ []) ≡ d ∷ [] → ends_sleep d ≡ false
    → (x.last ≡ awake → Leads x.last d awake) → (sleep_of m n ≡ None → sleep_of (event_of n d ∷ m) n ≡ None) → DoneAll n l (event_of n d ∷ m)
plainly n l m d x is fits patient wait shows goes leads keeps =
    let up = is_up x.last m n d x.is goes patient in
    shown_next n l m d awake x is fits wait shows (leads up) (keeps (is_none x.last m n up x.is))

waited : (n s : ℕ) (l m : Ledger) (x : DoneAll n l m) → DoneAll n l (Acted n (Waiting s) ∷ m)
waited n s l m x = record {
  deeds = x.deeds;
  part_is = part_waits m (Acted n (Waiting s)) n n (Waits s) refl refl ∙ x.part_is;
  fit = x.fit;
  alike = through (Acted n (Waiting s) ∷ m) m (did n x.deeds l) (after_wait m n s) x.alike;
  last = x.last;
  led = x.led;
  is = same_state x.last m (Acted n (Waiting s) ∷ m) n refl x.is;
}

began : (n s i w : ℕ) (l m : Ledger) (x : DoneAll n l m) → Fits m n (Sleeps s i w) → is_patient m (Some (n, Sleeps s i w)) ≡ true → DoneAll n l (Acted n (Slept s i w) ∷ m)
began n s i w l m x fits patient = record {
  deeds = x.deeds ++ Sleeps s i w ∷ [];
  part_is = part_waits m (Acted n (Slept s i w)) n n (Sleeps s i w) refl refl ∙ x.part_is ∙ ap (λ ds. part l n ++ ds) (sym (append-nil (shown x.deeds)) ∙ sym (shown_more x.deeds (Sleeps s i w)));
  fit = all_fit_more l n x.deeds (Sleeps s i w) x.fit (fits_same m (did n x.deeds l) n (Sleeps s i w) x.alike fits);
  alike = subst (Alike (Acted n (Slept s i w) ∷ m)) (sym (did_more l n x.deeds (Sleeps s i w))) (after_one m (did n x.deeds l) (Acted n (Slept s i w)) x.alike);
  last = sleeping (sleep_by s i w);
  led = led_more (state_at l n) x.last (sleeping (sleep_by s i w)) x.deeds (Sleeps s i w) x.led (is_up x.last m n (Sleeps s i w) x.is refl patient, refl);
  is = ap (λ t. cond t (sleep_by s i w) (sleep_of m n)) (eq-eqb n n refl);
}

pub its_sleep : (n : ℕ) (o p : Option Sleep) (f : Option Sleep → Deed) (g : Deed → Option Sleep) → ((p : Option Sleep) → g (f p) ≡ p) → ◌≡◌ {A = Owned} (Some (n, f o)) (Some (n, f p)) → o ≡ p
its_sleep n o p f g back is = sym (back o) ∙ ap (λ x. option_map_or (λ q. g q.1) x None) is ∙ back p

-- the sleep that it ends
abbrev pub woken_by : Deed → Option Sleep
woken_by (Wakes p) = p
woken_by (TimesOut p) = p
woken_by _ = None

next_done : (k n : ℕ) (l m : Ledger) (d : Deed) (x : DoneAll n l m) → LegalSoFar k m → MayCome k m (event_of n d) → deed m (event_of n d) ≡ Some (n, d) → Fits m n d → is_patient m (Some (n, d)) ≡ true → DoneAll n l (event_of n d ∷ m)
next_done k n l m (Opens b w s) x legal may is fits patient = plainly n l m (Opens b w s) x is fits patient refl refl refl (λ up. (up, refl)) (λ e. e)
next_done k n l m (Posts r c) x legal may is fits patient = plainly n l m (Posts r c) x is fits patient refl refl refl (λ up. (up, refl)) (λ e. e)
next_done k n l m (Takes s c w) x legal may is fits patient = plainly n l m (Takes s c w) x is fits patient refl refl refl (λ up. (up, refl)) (λ e. e)
next_done k n l m (Spends s) x legal may is fits patient = plainly n l m (Spends s) x is fits patient refl refl refl (λ up. (up, refl)) (λ e. e)
next_done k n l m (Accesses s i c old) x legal may is fits patient = plainly n l m (Accesses s i c old) x is fits patient refl refl refl (λ up. (up, refl)) (λ e. e)
next_done k n l m (Passes s) x legal may is fits patient = plainly n l m (Passes s) x is fits patient refl refl refl (λ up. (up, refl)) (λ e. e)
next_done k n l m Ends x legal may is fits patient = plainly n l m Ends x is fits patient refl refl refl (λ up. (up, refl)) (λ e. ap (λ o. cond (n == n) None o) e ∙ by (n == n))
  where
    by : (t : Bool) → cond {A = Option Sleep} t None None ≡ None
    by true = refl
    by false = refl
next_done k n l m (Notifies s i c t) x legal may is fits patient = plainly n l m (Notifies s i c t) x is fits patient refl refl refl (λ up. (up, refl)) (λ e. e)
next_done k n l m (Waits s) x legal may is fits patient = waited n s l m x
next_done k n l m (Sleeps s i w) x legal may is fits patient = began n s i w l m x fits patient
next_done k n l m (Wakes p) x legal may is fits patient =
    shown_next n l m (Wakes p) awake x is fits refl refl (may_end x.last m n p x.is may.0 (its_sleep n (sleep_of m n) p Wakes woken_by (λ p. refl) is), refl) (ap (λ t. cond t None (sleep_of m n)) (eq-eqb n n refl))
next_done k n l m (TimesOut p) x legal may is fits patient =
    shown_next n l m (TimesOut p) awake x is fits refl refl (may_end x.last m n p x.is (listed_asleep k m n legal may.0) (its_sleep n (sleep_of m n) p TimesOut woken_by (λ p. refl) is), refl)
    (ap (λ t. cond t None (sleep_of m n)) (eq-eqb n n refl))

done_next : (k n : ℕ) (l m : Ledger) (e : LedgerEvent) (d : Deed) → DoneAll n l m → LegalSoFar k m → MayCome k m e → deed m e ≡ Some (n, d) → is_patient m (deed m e) ≡ true → DoneAll n l (e ∷ m)
done_next k n l m e d x legal may is patient =
    let means = meant k m e n d may is in
    subst (λ e. DoneAll n l (e ∷ m)) (sym means.event)
    (next_done k n l m d x legal (subst (MayCome k m) means.event may) (ap (deed m) (sym means.event) ∙ is) means.fits (ap (is_patient m) (sym is) ∙ patient))

done_each : (k n : ℕ) (l : Ledger) (es : List LedgerEvent) → AreDeedsOf n es l → owed l ≡ None → LegalSoFar k (es ++ l) → patient (es ++ l) ≡ true → DoneAll n l (es ++ l)
done_each k n l [] are none legal waits = done_nothing n l
done_each k n l (e ∷ es) are none legal waits =
    let parts = and_parts (is_patient (es ++ l) (deed (es ++ l) e)) (patient (es ++ l)) waits in
    done_next k n l (es ++ l) e are.0.0 (done_each k n l es are.1 none legal.1 parts.1) legal.1 (subst (ComesNext k (es ++ l) e) (still_owes_nothing n l es are.1 none) legal.0) are.0.1 parts.0

pub done_all : (k n : ℕ) (l m : Ledger) → GrowsBy n l m → owed l ≡ None → LegalSoFar k m → patient m ≡ true → DoneAll n l m
done_all k n l m grows none legal waits = subst (DoneAll n l) (sym grows.1) (done_each k n l grows.0 grows.2 none (subst (LegalSoFar k) grows.1 legal) (subst (λ m. patient m ≡ true) grows.1 waits))

-- who is awake then has begun no sleep that it did not end
pub led_up : (n : ℕ) (l m : Ledger) (x : DoneAll n l m) → asleep m n ≡ false → Led (state_at l n) x.deeds awake
led_up n l m x up = subst (Led (state_at l n) x.deeds) (by x.last x.is) x.led
  where
    by : (v : State) → IsIn v m n → v ≡ awake
    by awake is = refl
    by (sleeping None) is = absurd (false≢true (sym up ∙ sleeps_here m n is.0 is.1))
    by (sleeping (Some s)) is = absurd (false≢true (sym up ∙ sleeps_here m n s is))

-- Without sleeps

pub done : (k n : ℕ) (l m : Ledger) → GrowsBy n l m → owed l ≡ None → LegalSoFar k m → Calm n m → Done n l m
done k n l m grows none legal calm =
    let x = done_all k n l m grows none legal calm.patience in
    let all = all_shown (state_at l n) x.deeds (rest_calm (part l n) (shown x.deeds) (ap has_sleep (sym x.part_is) ∙ calm.none)) (led_up n l m x calm.awake) in
    record { deeds = x.deeds; part_is = x.part_is ∙ ap (λ ds. part l n ++ ds) all.1; fit = x.fit; alike = x.alike }

-- So it goes on in one way

-- the ticket that came
row_came : (b : AgentView) (r : Option Row) (t : Tickets) → reverse b.over ++ t ≡ reverse (with_row r b).over → t ≡ came_row (made b.history) r
row_came b None t is = append_cancel_left (reverse b.over) t [] (is ∙ sym (append-nil (reverse b.over)))
row_came b (Some r) t is = append_cancel_left (reverse b.over) t ((made b.history + 1, r) ∷ []) (is ∙ reverse-append ((made b.history + 1, r) ∷ []) b.over)

-- the agent after the event
abbrev pub after_event : AgentView → Option Row → Event → AgentView
after_event b r e = record (with_row r b) { history = e ∷ b.history }

abbrev CameSo : AgentView → Event → Option Row → List Deed → Type 0
CameSo b e r ds =
    (left : Tickets) × (after (tickets b) (asked_by b e) ds ≡ Some left) × (ticket_in (asked_by b e) ds ≡ came_row (made b.history) r)
    × (refused_in (asked_by b e) ds ≡ (if is_refusal_asked (asked_by b e) then awaited b.plan (job b.history) else []))

-- what came by these deeds is what they brought
came_so : (n : ℕ) (l m : Ledger) (b : AgentView) (e : Event) (r : Option Row) (ds : List Deed) → DeedsMeet b.history (part l n) (came_to b) → DeedsMeet (e ∷ b.history) (part m n) (came_to (after_event b r e)) → part m n ≡ part l n ++ ds → CameSo b e r ds
came_so n l m b e r ds before now is =
    let met = came_next b.history (part l n) ds (came_to b) (came_to (after_event b r e)) e before (subst (λ p. DeedsMeet (e ∷ b.history) p (came_to (after_event b r e))) is now) in
    let had = mapped _ (after (tickets b) (asked_by b e) ds) (came_to (after_event b r e)) met in (
      had.0,
      had.1,
      row_came b r (ticket_in (asked_by b e) ds) (ap (λ c. c.ever) had.2),
      append_cancel_left (refused_senders b.plan b.history) (refused_in (asked_by b e) ds) (cond (is_refusal_asked (asked_by b e)) (awaited b.plan (job b.history)) []) (ap (λ c. c.refused) had.2),
    )

pub move : (n : ℕ) (l m : Ledger) (b : AgentView) (e : Event) (r : Option Row) → DeedsMeet b.history (part l n) (came_to b) → DeedsMeet (e ∷ b.history) (part m n) (came_to (after_event b r e)) → IsNext (with_row r b) e → (x : Done n l m) → Move n l b e r x.deeds
move n l m b e r before now next x =
    let came = came_so n l m b e r x.deeds before now x.part_is in
    record { next = next; left = came.0; met = came.1; came = came.2; sender = came.3; fit = x.fit }

pub way : (n : ℕ) (l m : Ledger) (b : AgentView) (e : Event) (r : Option Row) → DeedsMeet b.history (part l n) (came_to b) → DeedsMeet (e ∷ b.history) (part m n) (came_to (after_event b r e)) → IsNext (with_row r b) e → (x : DoneAll n l m) → asleep m n ≡ false
    → Way n l b e r x.deeds
way n l m b e r before now next x up =
    let came = came_so n l m b e r (shown x.deeds) before now x.part_is in
    record { next = next; left = came.0; met = came.1; came = came.2; sender = came.3; fit = x.fit; led = led_up n l m x up }
