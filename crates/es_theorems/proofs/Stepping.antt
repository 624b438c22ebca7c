-- The next event of the ledger is a deed: its agent takes its turns up to that deed, and the turn of the deed.
use Rattle.std.proofs.Common.{◌≡◌, ℕ, suc, ◌<◌, ◌||◌, Bool, true, false, sym, ◌∙◌, ap, refl, subst, arith, List, [], ◌∷◌, ◌++◌, take, drop, length, Some, None}
use Rattle.std.specs.Prelude.{slice_get}
use Rattle.std.proofs.lemmas.List.{take-append-drop}
use Rattle.es_event.specs.declared.event.Event.{Event}
use Rattle.es_event.specs.declared.ledger_event.LedgerEvent.{LedgerEvent}
use Rattle.es_event.specs.Ledger.{Ledger, ended as has_ended, holder_of, waits}
use Rattle.es_event.specs.LegalLedger.{ComesNext, MayCome}
use Rattle.es_event.specs.Order.{phase}
use Rattle.es_event.specs.Waiters.{asleep}
use Rattle.es_match.specs.Deeds.{Deed, deed, is_wait, part}
use Rattle.es_match.specs.Patience.{ends_wait, has_drained}
use Rattle.es_match.specs.Cluster.{Account, account_of}
use Rattle.es_match.specs.Meets.{Tickets, after}
use Rattle.es_ledger.specs.Turns.{told}
use Rattle.es_ledger.specs.declared.turn.Turn.TheVariants.{Stay}
use Rattle.es_record.specs.AgentView.{AgentView}
use Rattle.es_agent.specs.Tickets.{is_ended, tickets}
use Rattle.es_cluster.specs.Tied.{came_to}
use Rattle.es_cluster.specs.declared.member.Progress.TheVariants.{Moved}
use Rattle.es_cluster.specs.Ends.{IsWhole}
use Rattle.es_cluster.specs.State.{ClusterView}
use Rattle.es_cluster.specs.Turns.{AllTurned}
use Rattle.es_cluster.proofs.Ended.{there}
use Rattle.es_theorems.specs.Together.{AnyPlan, StandsAtBy}
use Rattle.es_theorems.specs.Ahead.{Acts, Like, Rearranged, ahead, played}
use Rattle.es_theorems.specs.Found.{AllMine, Gathered}
use Rattle.es_theorems.specs.Grown.{Unfolded, asked_by, deeds_asked, grown}
use Rattle.es_theorems.specs.Ready.{Goes}
use Rattle.es_theorems.specs.Underway.{Left, Settled, Stepped, Turn, Underway, has_end, is_end}
use Rattle.es_theorems.proofs.Turning.{owes_nothing}
use Rattle.es_theorems.proofs.Framing.{drains_nothing}
use Rattle.es_theorems.proofs.Gathering.{gather, part_mine, rearranged_cons, steps_first}
use Rattle.es_theorems.proofs.Needing.{closes_is, message_first, told_right}
use Rattle.es_theorems.proofs.Playing.{alone_asked, awake_after, awake_played, end_alone, end_asked, end_is, ended_played, free_after, free_played, mine_grows, mine_none, part_played, played_append, tail_asked}
use Rattle.es_theorems.proofs.Settling.{left_as, met_of, rearranged_on, settle}
use Rattle.es_theorems.proofs.TurningThreads.{next_of, turn}
use Rattle.es_theorems.proofs.Sleeps.{EndsWait, rested_right, sleep_first}
use Rattle.es_theorems.proofs.Turn.{held_at}
use Rattle.es_rules.specs.Needs.{asks_ledger, asks_message, for_word, need}
use Rattle.es_event.specs.declared.access.Task.{Task}
use Rattle.es_event.specs.declared.row.Row.{Row}
use Rattle.es_ledger.specs.Sleeps.{rested}
use Rattle.es_ticket.specs.Stakes.{at}

-- Turns one after the other

pub turns_append : (xs ys : List ℕ) (c d e : ClusterView) → AllTurned xs c d → AllTurned ys d e → AllTurned (xs ++ ys) c e
turns_append [] ys c d e a b = subst (λ d. AllTurned ys d e) a b
turns_append (n ∷ xs) ys c d e a b = (a.0, a.1, a.2, turns_append xs ys a.1 d e a.3 b)

-- an agent that acts is one of the cluster's
pub agent_there : (n : ℕ) (all : List Account) (c : ClusterView) (es : List LedgerEvent) (i : ℕ) → Underway n all c es → i < n → (b : AgentView) × (slice_get c.agents i ≡ Some b)
agent_there n all c es i u known = there c.agents i (let a = u.stands.size in let b = u.number in omega (arith, a, b, known))

-- it holds its tickets
pub ticket_held : (n : ℕ) (all : List Account) (c : ClusterView) (es : List LedgerEvent) (i : ℕ) (b : AgentView) (o : ℕ) (r : Row) → Underway n all c es → slice_get c.agents i ≡ Some b → Some r ≡ at o (tickets b) → holder_of c.ledger.history r.serial ≡ Some (i, r)
ticket_held n all c es i b o r u here is =
    subst (λ k. holder_of c.ledger.history r.serial ≡ Some (k, r)) (u.stands.each i b here).number (held_at b.number o c.ledger.history (tickets b) r (u.going i b here).rack.held is)

pub parts_same : (k : ℕ) (es fs : List LedgerEvent) (l : Ledger) (a : ℕ) → Rearranged k es fs l → part (played es l) a ≡ part (played fs l) a
parts_same k es fs l a r = part_played es l a ∙ ap (λ ds. part l a ++ ds) (r.parts a) ∙ sym (part_played fs l a)

-- The turn of the deed

or_false : (b c : Bool) → c ≡ false → (b || c) ≡ b
or_false true c none = refl
or_false false c none = none

first_same : (d e : Deed) (ds es : List Deed) → d ∷ ds ≡ e ∷ es → e ≡ d
first_same d e ds es is = cc

-- what is left is fewer
fewer_left : (x : LedgerEvent) (es fs gs : List LedgerEvent) → length es ≡ length (fs ++ gs) → length gs < length (x ∷ es)
fewer_left x es fs gs same = let a = less fs gs in omega (arith, a, same)
  where
    less : (fs gs : List LedgerEvent) → length gs < suc (length (fs ++ gs))
    less [] gs = omega arith
    less (f ∷ fs) gs = let a = less fs gs in omega (arith, a)

pub moves : (n : ℕ) (all : List Account) (c : ClusterView) (x : LedgerEvent) (es : List LedgerEvent) (i : ℕ) (d : Deed) (b : AgentView) (e : Event) (rest : List Event) (j : ℕ) → IsWhole (account_of all i) → (u : Underway n all c (x ∷ es))
    → deed c.ledger.history x ≡ Some (i, d) → is_wait d ≡ false → slice_get c.agents i ≡ Some b → (left : Left (account_of all i) b (ahead (x ∷ es) c.ledger.history i)) → left.rest ≡ e ∷ rest → deeds_asked b e ≡ suc j → Stepped n all c (x ∷ es)
moves n all c x es i d b e rest j whole u mine quick here left is asks = record {
  turns = i ∷ [];
  after = t.after;
  turned = (Moved, t.after, t.turned, refl {a = t.after});
  behind = g.others;
  on = t.on;
  less = fewer_left x es g.first g.others g.same.size;
  like = subst (Like (played (x ∷ es) m)) (played_append (x ∷ g.first) g.others m ∙ ap (played g.others) (sym t.history)) g.same.like;
  parts = λ a. parts_same n (x ∷ es) (x ∷ g.first ++ g.others) m a re ∙ ap (λ l. part l a) (played_append (x ∷ g.first) g.others m ∙ ap (played g.others) (sym t.history));
}
  where
    m : Ledger
    m = c.ledger.history

    was : StandsAtBy AnyPlan c i b
    was = u.stands.each i b here

    acts : Acts n m (Some (i, d))
    acts = subst (Acts n m) mine u.steps.0.acts

    comes : MayCome n m x
    comes = subst (ComesNext n m x) u.stands.undrained u.steps.0.legal

    later : List Deed
    later = ahead es (x ∷ m) i

    all_of : ahead (x ∷ es) m i ≡ d ∷ later
    all_of = ap (λ p. p ++ later) (part_mine i d (deed m x) mine quick)

    un : Unfolded b e rest (ahead (x ∷ es) m i) left.final
    un = next_of (account_of all i) b (ahead (x ∷ es) m i) e rest was.run whole left is

    now_is : take (deeds_asked b e) (ahead (x ∷ es) m i) ≡ d ∷ take j later
    now_is = ap (take (deeds_asked b e)) all_of ∙ ap (λ k. take k (d ∷ later)) asks

    met : (t : Tickets) × (after (tickets b) (asked_by b e) (take (deeds_asked b e) (ahead (x ∷ es) m i)) ≡ Some t)
    met = met_of b e (take (deeds_asked b e) (ahead (x ∷ es) m i)) (came_to (grown b un.row e)) un.met

    met_now : after (tickets b) (asked_by b e) (d ∷ take j later) ≡ Some met.0
    met_now = ap (after (tickets b) (asked_by b e)) (sym now_is) ∙ met.1

    up : asleep (x ∷ m) i ≡ false
    up = awake_after n m x i d comes mine quick acts.4

    goes : (take j later ≡ [] → ⊥) → Goes n (x ∷ m) i
    goes some = record {
      lives = record {
        known = acts.0;
        going = ap (λ t. t || has_ended m i) (end_is m x i d mine ∙ no_end (is_end d) refl) ∙ acts.1;
        paid = owes_nothing m x i d mine;
        undrained = ap (λ t. t || has_drained m) (drains_nothing m x i d mine) ∙ acts.2;
      };
      awake = up;
    }
      where
        no_end : (t : Bool) → is_end d ≡ t → is_end d ≡ false
        no_end false is = is
        no_end true is = absurd (some (alone_asked (tickets b) met.0 (asked_by b e) d (take j later) met_now (end_alone d is)))

    free : waits (x ∷ m) i ≡ None
    free = free_after m x i d mine quick acts.3

    g : Gathered n i (take j later) es (x ∷ m)
    g = gather n i (take j later) (drop j later) es (x ∷ m) (u.steps.0.legal, u.legal) u.steps.1 goes (λ some. free) (tail_asked (tickets b) met.0 (asked_by b e) d (take j later) met_now) (sym (take-append-drop j later))

    re : Rearranged n (x ∷ es) (x ∷ g.first ++ g.others) m
    re = rearranged_cons n x es (g.first ++ g.others) m u.steps.0 g.same

    u2 : Underway n all c (x ∷ g.first ++ g.others)
    u2 = rearranged_on n all c (x ∷ es) (x ∷ g.first ++ g.others) u re

    left2 : Left (account_of all i) b (ahead (x ∷ g.first ++ g.others) m i)
    left2 = left_as (account_of all i) b (ahead (x ∷ es) m i) (ahead (x ∷ g.first ++ g.others) m i) (re.parts i) left

    un2 : Unfolded b e rest (ahead (x ∷ g.first ++ g.others) m i) left2.final
    un2 = next_of (account_of all i) b (ahead (x ∷ g.first ++ g.others) m i) e rest was.run whole left2 is

    all_mine : AllMine i (x ∷ g.first) m
    all_mine = ((d, mine, quick), g.all_mine)

    deeds_are : ahead (x ∷ g.first) m i ≡ d ∷ take j later
    deeds_are = ap (λ p. p ++ ahead g.first (x ∷ m) i) (part_mine i d (deed m x) mine quick) ∙ ap (λ ds. d ∷ ds) g.deeds

    deeds : ahead (x ∷ g.first) m i ≡ take (deeds_asked b e) (ahead (x ∷ g.first ++ g.others) m i)
    deeds = deeds_are ∙ sym now_is ∙ ap (take (deeds_asked b e)) (re.parts i)

    over : has_ended (played (x ∷ g.first) m) i ≡ is_ended (phase (e ∷ b.history))
    over =
        ended_played (x ∷ g.first) m i all_mine
        ∙ or_false (has_end (ahead (x ∷ g.first) m i)) (has_ended m i) acts.1
        ∙ ap has_end deeds_are
        ∙ end_asked (tickets b) met.0 (asked_by b e) (d ∷ take j later) met_now
        ∙ closes_is b un.row e un.next

    right : (s : ℕ) → need b ≡ asks_message s → (told m c.ledger.agents b.number s).0 ≡ Stay → ⊥
    right s wants stay =
        let f = message_first b un.row e s (take (deeds_asked b e) (ahead (x ∷ es) m i)) met.0 was.run un.next wants met.1 un.named in
        let ends : ends_wait s d ≡ true = ap (ends_wait s) (sym (first_same d f.first (take j later) f.others (sym now_is ∙ f.is))) ∙ f.ends in
        told_right n m x i s d comes mine ends (ap (λ k. (told m k i s).0) (sym u.number) ∙ ap (λ k. (told m c.ledger.agents k s).0) (sym was.number) ∙ stay)

    rests : (o k w : ℕ) (r : Row) → need b ≡ asks_ledger (for_word o k (Task.Sleep w)) → Some r ≡ at o (tickets b) → (rested m c.ledger.agents b.number r k w).0 ≡ Some Stay → ⊥
    rests o k w r wants ticket stay =
        let f = sleep_first b un.row e o k w (take (deeds_asked b e) (ahead (x ∷ es) m i)) met.0 was.run un.next wants met.1 in
        let how = subst (EndsWait (tickets b) o k w) (first_same d f.0 (take j later) [] (sym now_is ∙ f.1)) f.2 in
        rested_right n m x i o k w r (tickets b) d u.legal comes mine acts.3 acts.4 ticket (ticket_held n all c (x ∷ es) i b o r u here ticket) how
        (ap (λ q. (rested m q i r k w).0) (sym u.number) ∙ ap (λ q. (rested m c.ledger.agents q r k w).0) (sym was.number) ∙ stay)

    t : Turn n all c i (grown b un2.row e) (played (x ∷ g.first) m) g.others rest
    t = turn n all c (x ∷ g.first) g.others i b e rest u2 here left2 is un2 (mine_grows i (x ∷ g.first) m all_mine) (λ k other. mine_none i k (x ∷ g.first) m all_mine other) deeds
        (free_played n g.first (x ∷ m) i (steps_first n g.first g.others (x ∷ m) g.same.steps) g.all_mine free) (awake_played g.first (x ∷ m) i g.all_mine up) over (right, rests)

-- the turns up to it, and its own
pub up_to : (n : ℕ) (all : List Account) (c : ClusterView) (es : List LedgerEvent) (i : ℕ) → (s : Settled n all c es i) → Stepped n all s.after es → Stepped n all c es
up_to n all c es i s v = record {
  turns = s.turns ++ v.turns;
  after = v.after;
  turned = turns_append s.turns v.turns c s.after v.after s.turned v.turned;
  behind = v.behind;
  on = v.on;
  less = v.less;
  like = subst (λ l. Like (played es l) (played v.behind v.after.ledger.history)) s.history v.like;
  parts = λ a. ap (λ l. part (played es l) a) (sym s.history) ∙ v.parts a;
}

pub deed_step : (n : ℕ) (all : List Account) (c : ClusterView) (x : LedgerEvent) (es : List LedgerEvent) (i : ℕ) (d : Deed) → ((i : ℕ) → i < n → IsWhole (account_of all i)) → (u : Underway n all c (x ∷ es)) → deed c.ledger.history x ≡ Some (i, d) → is_wait d ≡ false → Stepped n all c (x ∷ es)
deed_step n all c x es i d wholes u mine quick =
    let acts : Acts n c.ledger.history (Some (i, d)) = subst (Acts n c.ledger.history) mine u.steps.0.acts in
    let whole = wholes i acts.0 in
    let found = agent_there n all c (x ∷ es) i u acts.0 in
    let left = u.left i found.0 found.1 in
    let s = settle n all c (x ∷ es) i d (ahead es (x ∷ c.ledger.history) i) left.rest whole u found.0 found.1 left refl (ap (λ p. p ++ ahead es (x ∷ c.ledger.history) i) (part_mine i d (deed c.ledger.history x) mine quick)) in
    up_to n all c (x ∷ es) i s
    (moves n all s.after x es i d s.agent s.event s.rest s.fewer whole s.on (ap (λ l. deed l x) s.history ∙ mine) quick s.here s.mine s.mine_is s.some)
