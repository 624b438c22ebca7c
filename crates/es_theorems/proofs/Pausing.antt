-- An agent begins to wait or to sleep: that is a turn of its own, or it goes on at once.
use Rattle.std.proofs.Common.{◌≡◌, ◌⊎◌, ◌||◌, ℕ, suc, ◌<◌, true, false, sym, ◌∙◌, ap, refl, subst, arith, List, [], ◌∷◌, ◌++◌, append-nil, take, Some}
use Rattle.std.specs.Prelude.{slice_get}
use Rattle.std.proofs.lemmas.Bool.{false≢true}
use Rattle.es_event.specs.declared.event.Event.{Event}
use Rattle.es_event.specs.declared.ledger_event.LedgerEvent.{LedgerEvent}
use Rattle.es_event.specs.Ledger.{Ledger, ended as has_ended}
use Rattle.es_event.specs.LegalLedger.{ComesNext, LegalSoFar, MayCome}
use Rattle.es_event.specs.Order.{phase}
use Rattle.es_match.specs.Deeds.{Deed, Sleeps, Waits, deed, is_wait, part}
use Rattle.es_match.specs.Cluster.{Account, account_of}
use Rattle.es_match.specs.Meets.{Tickets, after}
use Rattle.es_record.specs.AgentView.{AgentView}
use Rattle.es_rules.specs.Needs.{need}
use Rattle.es_agent.specs.Tickets.{is_ended, tickets}
use Rattle.es_cluster.specs.Tied.{IsTied, came_to}
use Rattle.es_cluster.specs.Turned.{MayWait, SleepsOn, WaitsOn, WaitsRightly}
use Rattle.es_cluster.specs.declared.member.Progress.TheVariants.{Moved, Waiting}
use Rattle.es_cluster.specs.Ends.{IsWhole}
use Rattle.es_cluster.specs.State.{ClusterView}
use Rattle.es_cluster.specs.Turns.{Turned}
use Rattle.es_cluster.proofs.Growing.{grows_on, grows_one}
use Rattle.es_cluster.proofs.Standing.{set_same}
use Rattle.es_theorems.specs.Ahead.{Acts, Like, Rearranged, ahead, played}
use Rattle.es_theorems.specs.Grown.{Unfolded, asked_by, deeds_asked, grown}
use Rattle.es_theorems.specs.Together.{AnyPlan, StandsAtBy}
use Rattle.es_theorems.specs.Underway.{Left, Settled, Stepped, Turn, Underway, has_end, is_end}
use Rattle.es_theorems.proofs.Gathering.{part_mine, part_none, part_wait}
use Rattle.es_theorems.proofs.Liking.{like, like_through}
use Rattle.es_theorems.proofs.Needing.{closes_is}
use Rattle.es_theorems.proofs.Playing.{alone_asked, awake_after, end_asked, end_is, free_after, is_alone, last_played, patient_played}
use Rattle.es_theorems.proofs.Running.{stands_after}
use Rattle.es_theorems.proofs.Settling.{finished, left_as, met_of, settle}
use Rattle.es_theorems.proofs.Stepping.{agent_there, parts_same, up_to}
use Rattle.es_theorems.proofs.Turn.{with_history}
use Rattle.es_theorems.proofs.Turning.{owes_nothing}
use Rattle.es_theorems.proofs.TurningThreads.{going_after, next_of, turn}

begins_no_end : (d : Deed) → is_wait d ≡ true → is_end d ≡ false
begins_no_end (Waits s) w = refl
begins_no_end (Sleeps s i w) w' = refl
begins_no_end _ w = cc

-- it waits or sleeps on
pub rests_on : (n : ℕ) (all : List Account) (c : ClusterView) (x : LedgerEvent) (es : List LedgerEvent) (i : ℕ) (d : Deed) (b : AgentView) → Underway n all c (x ∷ es) → slice_get c.agents i ≡ Some b → deed c.ledger.history x ≡ Some (i, d) → is_wait d ≡ true
    → MayWait (need b) → WaitsOn b c.ledger (with_history c.ledger (x ∷ c.ledger.history)) ⊎ SleepsOn b c.ledger (with_history c.ledger (x ∷ c.ledger.history)) → IsTied b (x ∷ c.ledger.history) → Stepped n all c (x ∷ es)
rests_on n all c x es i d b u here mine w wants told tied = record {
  turns = i ∷ [];
  after = after;
  turned = (Waiting, after, turned, refl);
  behind = es;
  on = record {
    stands = stands_after Waiting i c after u.stands turned;
    going = going_after n all c (x ∷ es) Waiting i after u turned;
    number = u.number;
    legal = (u.steps.0.legal, u.legal);
    whole = refl;
    steps = u.steps.1;
    waits_end = patient_played n (x ∷ []) m (u.steps.0, tt) u.waits_end;
    drains_end = last_played n (x ∷ []) m (u.steps.0, tt) u.drains_end;
    strangers = λ a beyond. ap (λ p. part m a ++ p) (part_wait a i d (deed m x) mine w) ∙ append-nil (part m a) ∙ u.strangers a beyond;
    left = λ j y is. left_as (account_of all j) y (ahead (x ∷ es) m j) (ahead es (x ∷ m) j) (ap (λ p. p ++ ahead es (x ∷ m) j) (part_wait j i d (deed m x) mine w)) (u.left j y is);
  };
  less = omega arith;
  like = like (played es (x ∷ m));
  parts = λ a. refl;
}
  where
    m : Ledger
    m = c.ledger.history

    after : ClusterView
    after = record { agents = c.agents; ledger = with_history c.ledger (x ∷ m); failed = false }

    was : StandsAtBy AnyPlan c i b
    was = u.stands.each i b here

    ends : has_ended (x ∷ m) b.number ≡ has_ended m b.number
    ends = ap (has_ended (x ∷ m)) was.number ∙ ap (λ t. t || has_ended m i) (end_is m x i d mine ∙ begins_no_end d w) ∙ ap (has_ended m) (sym was.number)

    turned : Turned Waiting i c after
    turned = record {
      before = b;
      after = b;
      agent = here;
      agents = sym (set_same c.agents i b here);
      turn = (wants, refl);
      told = told;
      ledger = grows_one i m (x ∷ m) x d refl mine;
      number = refl;
      legal = (subst (λ k. LegalSoFar k (x ∷ m)) (sym u.number) (u.steps.0.legal, u.legal), owes_nothing m x i d mine);
      tied = tied;
      seated = record { known = was.seated.known; agents = was.seated.agents; over = ends ∙ was.seated.over };
      whole = (u.whole, refl);
    }

-- it goes on at once, by one more deed
pub at_once : (n : ℕ) (all : List Account) (c : ClusterView) (x y : LedgerEvent) (es : List LedgerEvent) (i : ℕ) (d g : Deed) (b : AgentView) (e : Event) (rest : List Event) (j : ℕ) → IsWhole (account_of all i) → (u : Underway n all c (x ∷ y ∷ es))
    → slice_get c.agents i ≡ Some b → (left : Left (account_of all i) b (ahead (x ∷ y ∷ es) c.ledger.history i)) → left.rest ≡ e ∷ rest → deeds_asked b e ≡ suc j → deed c.ledger.history x ≡ Some (i, d) → is_wait d ≡ true
    → deed (x ∷ c.ledger.history) y ≡ Some (i, g) → is_wait g ≡ false → is_alone g ≡ true → is_end g ≡ false → WaitsRightly Moved b c.ledger (with_history c.ledger (y ∷ x ∷ c.ledger.history)) → Stepped n all c (x ∷ y ∷ es)
at_once n all c x y es i d g b e rest j whole u here left is asks mine w does quick single goes tells = record {
  turns = i ∷ [];
  after = t.after;
  turned = (Moved, t.after, t.turned, refl {a = t.after});
  behind = es;
  on = t.on;
  less = omega arith;
  like = subst (λ k. Like (played (x ∷ y ∷ es) m) (played es k)) (sym t.history) (like (played (x ∷ y ∷ es) m));
  parts = λ a. ap (λ k. part (played es k) a) (sym t.history);
}
  where
    m : Ledger
    m = c.ledger.history

    l : Ledger
    l = x ∷ m

    was : StandsAtBy AnyPlan c i b
    was = u.stands.each i b here

    acts : Acts n l (Some (i, g))
    acts = subst (Acts n l) does u.steps.1.0.acts

    comes : MayCome n l y
    comes = subst (ComesNext n l y) (owes_nothing m x i d mine) u.steps.1.0.legal

    un : Unfolded b e rest (ahead (x ∷ y ∷ es) m i) left.final
    un = next_of (account_of all i) b (ahead (x ∷ y ∷ es) m i) e rest was.run whole left is

    later : List Deed
    later = ahead es (y ∷ l) i

    now_is : take (deeds_asked b e) (ahead (x ∷ y ∷ es) m i) ≡ g ∷ take j later
    now_is =
        ap (take (deeds_asked b e)) (ap (λ p. p ++ ahead (y ∷ es) l i) (part_wait i i d (deed m x) mine w) ∙ ap (λ p. p ++ later) (part_mine i g (deed l y) does quick))
        ∙ ap (λ k. take k (g ∷ later)) asks

    met : (t : Tickets) × (after (tickets b) (asked_by b e) (take (deeds_asked b e) (ahead (x ∷ y ∷ es) m i)) ≡ Some t)
    met = met_of b e (take (deeds_asked b e) (ahead (x ∷ y ∷ es) m i)) (came_to (grown b un.row e)) un.met

    met_now : after (tickets b) (asked_by b e) (g ∷ take j later) ≡ Some met.0
    met_now = ap (after (tickets b) (asked_by b e)) (sym now_is) ∙ met.1

    alone : take j later ≡ []
    alone = alone_asked (tickets b) met.0 (asked_by b e) g (take j later) met_now single

    deeds_are : ahead (x ∷ y ∷ []) m i ≡ g ∷ []
    deeds_are = ap (λ p. p ++ ahead (y ∷ []) l i) (part_wait i i d (deed m x) mine w) ∙ ap (λ p. p ++ []) (part_mine i g (deed l y) does quick)

    others : (k : ℕ) → (k ≡ i → ⊥) → ahead (x ∷ y ∷ []) m k ≡ []
    others k other = ap (λ p. p ++ ahead (y ∷ []) l k) (part_none k i d (deed m x) mine other) ∙ ap (λ p. p ++ []) (part_none k i g (deed l y) does other)

    over : has_ended (y ∷ l) i ≡ is_ended (phase (e ∷ b.history))
    over =
        ap (λ t. t || has_ended l i) (end_is l y i g does ∙ goes) ∙ acts.1 ∙ sym (ap (λ t. t || false) goes)
        ∙ ap (λ ds. has_end (g ∷ ds)) (sym alone)
        ∙ end_asked (tickets b) met.0 (asked_by b e) (g ∷ take j later) met_now
        ∙ closes_is b un.row e un.next

    t : Turn n all c i (grown b un.row e) (y ∷ l) es rest
    t = turn n all c (x ∷ y ∷ []) es i b e rest u here left is un (grows_on i m l (y ∷ l) (grows_one i m l x d refl mine) (grows_one i l (y ∷ l) y g refl does)) others
        (deeds_are ∙ ap (λ ds. g ∷ ds) (sym alone) ∙ sym now_is) (free_after l y i g does quick acts.3) (awake_after n l y i g comes does quick acts.4) over tells

-- where the events that follow stood in another order
pub rearranged_step : (n : ℕ) (all : List Account) (c : ClusterView) (es fs : List LedgerEvent) → Rearranged n es fs c.ledger.history → Stepped n all c fs → Stepped n all c es
rearranged_step n all c es fs r s = record {
  turns = s.turns;
  after = s.after;
  turned = s.turned;
  behind = s.behind;
  on = s.on;
  less = (let size = r.size in let less = s.less in omega (arith, size, less));
  like = like_through (played es c.ledger.history) (played fs c.ledger.history) (played s.behind s.after.ledger.history) r.like s.like;
  parts = λ a. parts_same n es fs c.ledger.history a r ∙ s.parts a;
}

-- first the agent takes its turns up to it, and it has a deed that comes later
pub begin_step : (n : ℕ) (all : List Account) (c : ClusterView) (x : LedgerEvent) (es : List LedgerEvent) (i : ℕ) (d : Deed) → ((i : ℕ) → i < n → IsWhole (account_of all i)) → Underway n all c (x ∷ es) → deed c.ledger.history x ≡ Some (i, d) → is_wait d ≡ true
    → (IsWhole (account_of all i) → (v : Settled n all c (x ∷ es) i) (g : Deed) (gs : List Deed) → ahead es (x ∷ v.after.ledger.history) i ≡ g ∷ gs → Stepped n all v.after (x ∷ es)) → Stepped n all c (x ∷ es)
begin_step n all c x es i d wholes u mine w next = at (ahead es (x ∷ m) i) refl
  where
    m : Ledger
    m = c.ledger.history

    acts : Acts n m (Some (i, d))
    acts = subst (Acts n m) mine u.steps.0.acts

    whole : IsWhole (account_of all i)
    whole = wholes i acts.0

    found : (b : AgentView) × (slice_get c.agents i ≡ Some b)
    found = agent_there n all c (x ∷ es) i u acts.0

    later : ahead (x ∷ es) m i ≡ ahead es (x ∷ m) i
    later = ap (λ p. p ++ ahead es (x ∷ m) i) (part_wait i i d (deed m x) mine w)

    at : (gs : List Deed) → ahead es (x ∷ m) i ≡ gs → Stepped n all c (x ∷ es)
    at [] none =
        let was = u.stands.each i found.0 found.1 in
        let closed = finished (account_of all i) found.0 (ahead (x ∷ es) m i) whole (u.left i found.0 found.1) (later ∙ none) in
        absurd (false≢true (sym acts.1 ∙ ap (has_ended m) (sym was.number) ∙ was.seated.over ∙ closed))
    at (g ∷ gs) some =
        let v = settle n all c (x ∷ es) i g gs (u.left i found.0 found.1).rest whole u found.0 found.1 (u.left i found.0 found.1) refl (later ∙ some) in
        up_to n all c (x ∷ es) i v (next whole v g gs (ap (λ k. ahead es (x ∷ k) i) v.history ∙ some))
