-- An agent takes its turns that ask the ledger for nothing.
use Rattle.std.proofs.Common.{◌≡◌, ℕ, zero, suc, Bool, true, false, sym, ◌∙◌, ap, refl, List, [], ◌∷◌, ◌++◌, take, drop, reverse, Option, Some, None}
use Rattle.std.specs.Prelude.{slice_get}
use Rattle.std.proofs.lemmas.Bool.{false≢true}
use Rattle.es_event.specs.declared.event.Event.{Event}
use Rattle.es_event.specs.declared.event.Event.TheVariants.{Closed}
use Rattle.es_event.specs.declared.ledger_event.LedgerEvent.{LedgerEvent}
use Rattle.es_event.specs.History.{History}
use Rattle.es_event.specs.Ledger.{Ledger, ended as has_ended, waits}
use Rattle.es_event.specs.Order.{phase}
use Rattle.es_match.specs.Deeds.{Deed}
use Rattle.es_match.specs.Asks.{asks, between_jobs, ends_job, to_close}
use Rattle.es_match.specs.Cluster.{Account, account_of}
use Rattle.es_match.specs.Goes.{asked, goes}
use Rattle.es_match.specs.Meets.{Came, Tickets, after, came_after, no_more, serials_of, some_if, spends}
use Rattle.es_match.proofs.Bridge.{chained, mapped, reverse_cons}
use Rattle.es_record.specs.AgentView.{AgentView, with_row}
use Rattle.es_rules.specs.Needs.{asks_ledger, asks_message, for_word, need}
use Rattle.es_agent.specs.Tickets.{is_ended, tickets}
use Rattle.es_agent.proofs.Racks.{open_after, open_before}
use Rattle.es_cluster.specs.Tied.{came_to}
use Rattle.es_cluster.specs.declared.member.Progress.TheVariants.{Moved}
use Rattle.es_cluster.proofs.Growing.{grows_none}
use Rattle.es_cluster.proofs.Midway.{free as free_of}
use Rattle.es_event.specs.declared.access.Task.{Task}
use Rattle.es_event.specs.Waiters.{asleep}
use Rattle.es_cluster.specs.Ends.{IsWhole}
use Rattle.es_cluster.specs.State.{ClusterView}
use Rattle.es_theorems.specs.Together.{AnyPlan, StandsAtBy}
use Rattle.es_theorems.specs.Ahead.{Rearranged, ahead}
use Rattle.es_theorems.specs.Grown.{Unfolded, asked_by, deeds_asked, grown}
use Rattle.es_theorems.specs.Underway.{Left, Settled, Turn, Underway, has_end}
use Rattle.es_theorems.proofs.Needing.{EndsFirst, closes_is, message_first}
use Rattle.es_theorems.proofs.Playing.{end_asked}
use Rattle.es_theorems.proofs.TurningThreads.{next_of, turn}
use Rattle.es_theorems.proofs.Sleeps.{awake_unless, sleep_first}

abbrev pub left_as : (a : Account) (b : AgentView) (ds es : List Deed) → ds ≡ es → Left a b ds → Left a b es
left_as a b ds es same left = record { plan = left.plan; rest = left.rest; history = left.history; final = left.final; go = ap (goes (between_jobs b.history) (came_to b) left.rest) (sym same) ∙ left.go; said = left.said }

pub rearranged_on : (n : ℕ) (all : List Account) (c : ClusterView) (es fs : List LedgerEvent) → Underway n all c es → Rearranged n es fs c.ledger.history → Underway n all c fs
rearranged_on n all c es fs u r = record {
  stands = u.stands;
  going = u.going;
  number = u.number;
  legal = u.legal;
  whole = u.whole;
  steps = r.steps;
  strangers = u.strangers;
  waits_end = u.waits_end;
  drains_end = u.drains_end;
  left = λ i b is. left_as (account_of all i) b (ahead es c.ledger.history i) (ahead fs c.ledger.history i) (r.parts i) (u.left i b is);
}

-- An agent without deeds left has closed

take_none : (k : ℕ) → ◌≡◌ {A = List Deed} (take k []) []
take_none zero = refl
take_none (suc k) = refl

none_spent : (ns : List ℕ) → spends true ns [] ≡ false
none_spent [] = refl
none_spent (n ∷ ns) = refl

not_closed : (between : Bool) (c d : Came) (e : Event) → came_after c (asks between e) [] ≡ Some d → e ≡ Closed → ⊥
not_closed between c d e met is =
    let m = mapped _ (after c.tickets (asks between e) []) d met in
    let closing : after c.tickets to_close [] ≡ Some m.0 = ap (λ e. after c.tickets (asks between e) []) (sym is) ∙ m.1 in
    let none : after c.tickets to_close [] ≡ None = ap (λ b. some_if b []) (none_spent (serials_of c.tickets)) in
    let clash : ◌≡◌ {A = Option Tickets} None (Some m.0) = sym none ∙ closing in cc

opens_on : (rest : List Event) (h : History) (c final : Came) → goes (between_jobs h) c rest [] ≡ Some final → is_ended (phase h) ≡ false → is_ended (phase (reverse rest ++ h)) ≡ false
opens_on [] h c final go before = before
opens_on (e ∷ rest) h c final go before =
    let k = asked c.tickets (asks (between_jobs h) e) in
    let s = chained (λ d. goes (ends_job e) d rest (drop k [])) (came_after c (asks (between_jobs h) e) (take k [])) final go in
    let met : came_after c (asks (between_jobs h) e) [] ≡ Some s.0 = ap (came_after c (asks (between_jobs h) e)) (sym (take_none k)) ∙ s.1 in
    ap (λ h. is_ended (phase h)) (reverse_cons e rest h)
    ∙ opens_on rest (e ∷ h) s.0 final (ap (goes (ends_job e) s.0 rest) (sym (drop_none k)) ∙ s.2) (open_after h e (not_closed (between_jobs h) c s.0 e met) before)
  where
    drop_none : (k : ℕ) → ◌≡◌ {A = List Deed} (drop k []) []
    drop_none zero = refl
    drop_none (suc k) = refl

pub finished : (a : Account) (b : AgentView) (ds : List Deed) → IsWhole a → Left a b ds → ds ≡ [] → is_ended (phase b.history) ≡ true
finished a b ds whole left none = at (is_ended (phase b.history)) refl
  where
    at : (t : Bool) → is_ended (phase b.history) ≡ t → is_ended (phase b.history) ≡ true
    at true is = is
    at false is =
        let open' = opens_on left.rest b.history (came_to b) left.final (ap (goes (between_jobs b.history) (came_to b) left.rest) (sym none) ∙ left.go) is in
        let closed : is_ended (phase a.history) ≡ true = ap is_ended whole.1.1 in
        absurd (false≢true (sym (ap (λ h. is_ended (phase h)) left.history ∙ open') ∙ closed))

-- A turn without deeds

pub met_of : (b : AgentView) (e : Event) (now : List Deed) (d : Came) → came_after (came_to b) (asked_by b e) now ≡ Some d → (t : Tickets) × (after (tickets b) (asked_by b e) now ≡ Some t)
met_of b e now d is = let m = mapped _ (after (tickets b) (asked_by b e) now) d is in (m.0, m.1)

no_first : (s k : ℕ) (ds : List Deed) → k ≡ 0 → EndsFirst s (take k ds) → ⊥
no_first s k ds none f = let clash : [] ≡ f.first ∷ f.others = ap (λ k. take k ds) (sym none) ∙ f.is in cc

pub local_turn : (n : ℕ) (all : List Account) (c : ClusterView) (es : List LedgerEvent) (i : ℕ) (b : AgentView) (e : Event) (rest : List Event) → (u : Underway n all c es) → (here : slice_get c.agents i ≡ Some b)
    → (left : Left (account_of all i) b (ahead es c.ledger.history i)) → left.rest ≡ e ∷ rest → (x : Unfolded b e rest (ahead es c.ledger.history i) left.final) → deeds_asked b e ≡ 0
    → Turn n all c i (grown b x.row e) c.ledger.history es rest
local_turn n all c es i b e rest u here left is x none =
    turn n all c [] es i b e rest u here left is x (grows_none i m) (λ j other. refl) first free awake over (λ s asks stay. no_message s asks, λ o j w r asks here stay. no_sleep o j w asks)
  where
    m : Ledger
    m = c.ledger.history

    ds : List Deed
    ds = ahead es m i

    was : StandsAtBy AnyPlan c i b
    was = u.stands.each i b here

    first : [] ≡ take (deeds_asked b e) ds
    first = sym (ap (λ k. take k ds) none)

    met : (t : Tickets) × (after (tickets b) (asked_by b e) (take (deeds_asked b e) ds) ≡ Some t)
    met = met_of b e (take (deeds_asked b e) ds) (came_to (grown b x.row e)) x.met

    no_message : (s : ℕ) → need b ≡ asks_message s → ⊥
    no_message s asks = no_first s (deeds_asked b e) ds none (message_first b x.row e s (take (deeds_asked b e) ds) met.0 was.run x.next asks met.1 x.named)

    no_sleep : (o j w : ℕ) → need b ≡ asks_ledger (for_word o j (Task.Sleep w)) → ⊥
    no_sleep o j w asks =
        let one = sleep_first b x.row e o j w (take (deeds_asked b e) ds) met.0 was.run x.next asks met.1 in
        let clash : [] ≡ one.0 ∷ [] = first ∙ one.1 in cc

    free : waits m i ≡ None
    free = ap (waits m) (sym was.number) ∙ free_of b m was.tied no_message

    awake : asleep m i ≡ false
    awake = ap (asleep m) (sym was.number) ∙ awake_unless b m was.tied no_sleep

    over : has_ended m i ≡ is_ended (phase (e ∷ b.history))
    over =
        ap (has_ended m) (sym was.number) ∙ was.seated.over ∙ open_before (with_row x.row b) e x.next
        ∙ ap has_end first
        ∙ end_asked (tickets b) met.0 (asked_by b e) (take (deeds_asked b e) ds) met.1
        ∙ closes_is b x.row e x.next

-- All of them

pub settle : (n : ℕ) (all : List Account) (c : ClusterView) (es : List LedgerEvent) (i : ℕ) (d : Deed) (ds : List Deed) (events : List Event) → IsWhole (account_of all i) → (u : Underway n all c es) → (b : AgentView) → slice_get c.agents i ≡ Some b
    → (left : Left (account_of all i) b (ahead es c.ledger.history i)) → left.rest ≡ events → ahead es c.ledger.history i ≡ d ∷ ds → Settled n all c es i
settle n all c es i d ds [] whole u b here left is some =
    let go : some_if (no_more (d ∷ ds)) (came_to b) ≡ Some left.final = ap (λ ds. goes (between_jobs b.history) (came_to b) [] ds) (sym some) ∙ ap (λ es'. goes (between_jobs b.history) (came_to b) es' (ahead es c.ledger.history i)) (sym is) ∙ left.go in
    cc
settle n all c es i d ds (e ∷ rest) whole u b here left is some =
    at (deeds_asked b e) refl (λ after on agent there mine mine_is more. settle n all after es i d ds rest whole on agent there mine mine_is more)
  where
    m : Ledger
    m = c.ledger.history

    x : Unfolded b e rest (ahead es m i) left.final
    x = next_of (account_of all i) b (ahead es m i) e rest (u.stands.each i b here).run whole left is

    at : (k : ℕ) → deeds_asked b e ≡ k
        → ((after : ClusterView) → Underway n all after es → (agent : AgentView) → slice_get after.agents i ≡ Some agent → (mine : Left (account_of all i) agent (ahead es after.ledger.history i)) → mine.rest ≡ rest → ahead es after.ledger.history i ≡ d ∷ ds → Settled n all after es i)
        → Settled n all c es i
    at (suc k) asks on = record { turns = []; after = c; turned = refl; on = u; history = refl; agent = b; here = here; mine = left; event = e; rest = rest; mine_is = is; fewer = k; some = asks }
    at zero asks on =
        let t = local_turn n all c es i b e rest u here left is x asks in
        let s = on t.after t.on (grown b x.row e) t.agent t.mine t.mine_is (ap (λ l. ahead es l i) t.history ∙ some) in
        record {
          turns = i ∷ s.turns;
          after = s.after;
          turned = (Moved, t.after, t.turned, s.turned);
          on = s.on;
          history = s.history ∙ t.history;
          agent = s.agent;
          here = s.here;
          mine = s.mine;
          event = s.event;
          rest = s.rest;
          mine_is = s.mine_is;
          fewer = s.fewer;
          some = s.some;
        }
