-- A cluster whose agents go on: each that is asked takes a turn, after which they go on still; so do they after any turn.
use Rattle.std.proofs.Common.{◌≡◌, ℕ, zero, suc, ◌+◌, ◌<◌, true, false, sym, ◌∙◌, ap, refl, subst, arith, List, [], ◌∷◌, length, reverse, Option, Some, None, Ok, inl, inr}
use Rattle.std.specs.Prelude.{slice_get, slice_set}
use Rattle.std.specs.List.{list_all}
use Rattle.es_event.specs.declared.ledger_event.Act.{Act}
use Rattle.es_event.specs.declared.ledger_event.Act.TheVariants.{Slept}
use Rattle.es_event.specs.declared.ledger_event.LedgerEvent.TheVariants.{Acted}
use Rattle.es_event.specs.declared.plan.AgentPlan.{AgentPlan}
use Rattle.es_event.specs.declared.plan.Plan.{Plan}
use Rattle.es_event.specs.Jobs.{callbacks_collect_nothing}
use Rattle.es_event.specs.Ledger.{Ledger}
use Rattle.es_event.specs.LegalLedger.{LegalLedger, LegalSoFar}
use Rattle.es_event.specs.Others.{all_name_others}
use Rattle.es_event.proofs.Entries.{inner}
use Rattle.es_ticket.specs.Stakes.{is_rising_from}
use Rattle.es_ledger.specs.LedgerView.{LedgerView}
use Rattle.es_ledger.specs.Turns.{asked}
use Rattle.es_ledger.specs.declared.turn.Turn.{Turn as Told}
use Rattle.es_ledger.specs.declared.turn.Turn.TheVariants.{Stay}
use Rattle.es_record.specs.AgentView.{AgentView}
use Rattle.es_agent.specs.Tickets.{tickets}
use Rattle.es_agent.proofs.Racks.{no_tickets}
use Rattle.es_cluster.specs.Tied.{GrowsBy, IsTied}
use Rattle.es_cluster.specs.Turned.{OthersStay, SleepsOn, WaitsOn, WaitsRightly}
use Rattle.es_cluster.specs.declared.member.Progress.{Progress}
use Rattle.es_cluster.specs.declared.member.Progress.TheVariants.{Moved, Waiting, Ended}
use Rattle.es_cluster.proofs.Hearing.{where_stay}
use Rattle.es_cluster.specs.Asked.{Hears, Works}
use Rattle.es_cluster.specs.Moves.{cleans_quietly}
use Rattle.es_cluster.specs.State.{ArePlaced, AreTied, ClusterView, IsPlaced, first_state, first_views, plans}
use Rattle.es_cluster.specs.Turns.{AllTurned, Takes, Turned}
use Rattle.es_cluster.proofs.Beginning.{first_holds}
use Rattle.es_cluster.proofs.Ended.{there}
use Rattle.es_cluster.proofs.Named.{names}
use Rattle.es_cluster.proofs.Mover.{by_asked}
use Rattle.es_cluster.proofs.Sleeping.{begun_at, by_rest, no_message, roused_stays, some_turn}
use Rattle.es_cluster.proofs.Standing.{by_place, mapped_still, placed_after, placed_here, set_length, tied_after, tied_of, within}
use Rattle.es_cluster.proofs.Turning.{stepped}
use Rattle.es_theorems.specs.Going.{AllGoing, Going, Racked, Standing, Turn}
use Rattle.es_theorems.proofs.Only.{only_beside}
use Rattle.es_theorems.proofs.Rack.{held_beside}
use Rattle.es_theorems.proofs.Racked.{goes_on_after, quiet}
use Rattle.es_theorems.proofs.Turn.{takes_turn}

-- each agent has its place and its part in the ledger, which is legal, and goes on
pub record Well (c : ClusterView) : Type 0 where
  pub placed : ArePlaced c.agents c.ledger
  pub tied : AreTied c.agents c.ledger
  pub legal : LegalLedger c.ledger.agents c.ledger.history
  pub whole : c.failed ≡ false
  pub going : AllGoing c

-- After a turn

takes_same : (p : Progress) (b new : AgentView) → Takes p b new → (new.number ≡ b.number) × (new.plan ≡ b.plan)
takes_same Moved b new t = (ap (λ b. b.number) t.3, ap (λ b. b.plan) t.3)
takes_same Waiting b new t = (ap (λ b. b.number) t.1, ap (λ b. b.plan) t.1)
takes_same Ended b new t = (ap (λ b. b.number) t.1, ap (λ b. b.plan) t.1)

going_beside : (n m : ℕ) (b : AgentView) (l k : Ledger) → GrowsBy n l k → LegalSoFar m k → (b.number ≡ n → ⊥) → Going b l → Going b k
going_beside n m b l k grows legal other g = record {
  run = g.run;
  rising = g.rising;
  newest_is = g.newest_is;
  rack = record { held = held_beside m n l k b.number (tickets b) grows legal other g.rack.held; apart = g.rack.apart; only = only_beside n l k b.number (tickets b) grows other g.rack.only };
}

-- one that waits or sleeps on holds what it held, whatever the ledger recorded of it
waits_still : (k : ℕ) (b : AgentView) (l m : LedgerView) → WaitsRightly Waiting b l m → IsTied b l.history → LegalSoFar k l.history → Going b l.history → Going b m.history
waits_still k b l m told tied legal g = record { run = g.run; rising = g.rising; newest_is = g.newest_is; rack = elim told [ inl on ↦ on_for on | inr on ↦ on_at on ] }
  where
    acted : (a : Act) → Racked b.number (Acted b.number a ∷ l.history) (tickets b)
    acted a = quiet k b.number l.history (Acted b.number a) (tickets b) legal (λ j f. cc) (λ j f. f) g.rack

    is : (h : Ledger) → m.history ≡ h → Racked b.number h (tickets b) → Racked b.number m.history (tickets b)
    is h same r = subst (λ h. Racked b.number h (tickets b)) (sym same) r

    on_for : WaitsOn b l m → Racked b.number m.history (tickets b)
    on_for on =
        is (asked l.history b.number on.0) (where_stay l.history m.history l.agents b.number on.0 on.2) (by_asked (λ h. Racked b.number h (tickets b)) l.history b.number on.0 g.rack (acted (Act.Waiting on.0)))

    on_at : SleepsOn b l m → Racked b.number m.history (tickets b)
    on_at on =
        by_rest (Some Stay) m.history l.history l.agents b.number on.1 on.2 on.3 on.6
        (λ sleeping told more. is l.history (roused_stays l.history m.history l.agents b.number more (some_turn _ told)) g.rack)
        (λ waiting told more. no_message b l.history on.0 on.1 on.2 tied on.4 waiting)
        (λ awake there told more. is (begun_at l.history b.number on.3 on.1 on.2) (roused_stays (begun_at l.history b.number on.3 on.1 on.2) m.history l.agents b.number more (some_turn _ told)) (acted (Slept on.3.serial on.1 on.2)))
        (λ awake other told more. let clash : ◌≡◌ {A = Option Told} (Some Stay) None = told in cc)

-- each is in its place, and it and its part in the ledger go together
abbrev pub AllTied : ClusterView → Type 0
AllTied c = (n : ℕ) (b : AgentView) → slice_get c.agents n ≡ Some b → (b.number ≡ n) × IsTied b c.ledger.history

goes_still : (p : Progress) (n : ℕ) (c d : ClusterView) → AllTied c → LegalLedger c.ledger.agents c.ledger.history → AllGoing c → (t : Turned p n c d) → Going t.after d.ledger.history
goes_still Moved n c d tied legal going t =
    let was = tied n t.before t.agent in
    let grows = subst (λ n. GrowsBy n c.ledger.history d.ledger.history) (sym was.0) t.ledger in
    goes_on_after d.ledger.agents t.before t.after c.ledger.history d.ledger.history (going n t.before t.agent) was.1 legal.1 t.legal.0 grows t.turn t.tied.tied
goes_still Waiting n c d tied legal going t = subst (λ b. Going b d.ledger.history) (sym t.turn.1) (waits_still c.ledger.agents t.before c.ledger d.ledger t.told (tied n t.before t.agent).1 legal.0 (going n t.before t.agent))
goes_still Ended n c d tied legal going t = subst (λ b. Going b d.ledger.history) (sym t.turn.1) (subst (λ (l : LedgerView). Going t.before l.history) (sym t.told) (going n t.before t.agent))

pub all_going : (p : Progress) (n : ℕ) (c d : ClusterView) → AllTied c → LegalLedger c.ledger.agents c.ledger.history → AllGoing c → Turned p n c d → AllGoing d
all_going p n c d tied legal going t i b is =
    by_place (λ i b. Going b d.ledger.history) c.agents n t.after (within c.agents n t.before t.agent) (goes_still p n c d tied legal going t)
    (λ j y other at. going_beside n d.ledger.agents y c.ledger.history d.ledger.history t.ledger t.legal.0 (λ same. other (sym (tied j y at).0 ∙ same)) (going j y at))
    i b (ap (λ bs. slice_get bs i) (sym t.agents) ∙ is)

pub well_turned : (p : Progress) (n : ℕ) (c d : ClusterView) → Well c → Turned p n c d → Well d
well_turned p n c d w t = record {
  placed = subst (λ bs. ArePlaced bs d.ledger) (sym t.agents) (placed_after c.agents c.ledger d.ledger n t.after here w.placed still stay);
  tied = subst (λ bs. AreTied bs d.ledger) (sym t.agents) (tied_after c.agents c.ledger d.ledger n t.after here w.placed w.tied (tied_of p t.after d.ledger.history t.tied) stay);
  legal = t.legal;
  whole = t.whole.1;
  going = all_going p n c d (λ i b is. ((w.placed.each i b is).number, w.tied.each i b is)) w.legal w.going t;
}
  where
    here : n < length c.agents
    here = within c.agents n t.before t.agent

    stay : OthersStay n c.ledger d.ledger
    stay = (t.number, t.ledger)

    still : IsPlaced d.ledger n t.after
    still =
        let same = takes_same p t.before t.after t.turn in
        placed_here t.before t.after c.ledger d.ledger n (w.placed.each n t.before t.agent) same.0 same.1 t.seated t.number

-- A turn that is asked for

standing : (n : ℕ) (c : ClusterView) (b : AgentView) → Well c → slice_get c.agents n ≡ Some b → Standing b c.ledger
standing n c b w is =
    let placed = w.placed.each n b is in
    record { seated = placed.seated; tied = w.tied.each n b is; legal = w.legal; others = names b c.ledger.agents n placed.number placed.others; going = w.going n b is }

-- agent n took a turn, and the agents go on
pub record TakesTurn (n : ℕ) (c : ClusterView) : Type 0 where
  pub progress : Progress
  pub after : ClusterView
  pub turned : Turned progress n c after
  pub well : Well after

turn_at : (p : Progress) (n : ℕ) (c : ClusterView) (b : AgentView) → Well c → slice_get c.agents n ≡ Some b → Turn p b c.ledger → TakesTurn n c
turn_at p n c b w is t = record { progress = p; after = new; turned = taken; well = well_turned p n c new w taken }
  where
    new : ClusterView
    new = record { agents = slice_set c.agents n t.after; ledger = t.ledger; failed = false }

    taken : Turned p n c new
    taken = record {
      before = b;
      after = t.after;
      agent = is;
      agents = refl;
      turn = t.takes;
      told = t.told;
      ledger = subst (λ k. GrowsBy k c.ledger.history t.ledger.history) (w.placed.each n b is).number t.grows;
      number = t.number;
      legal = t.legal;
      tied = t.tied;
      seated = t.seated;
      whole = (w.whole, refl);
    }

pub ask : (n : ℕ) (c : ClusterView) → Well c → n < length c.agents → TakesTurn n c
ask n c w inside =
    let found = there c.agents n inside in
    let t = takes_turn found.0 c.ledger (standing n c found.0 w found.1) in
    turn_at t.0 n c found.0 w found.1 t.1

-- The first state

first_bare : (agents n : ℕ) (ps : List AgentPlan) (i : ℕ) (b : AgentView) → slice_get (first_views agents n ps) i ≡ Some b → (b.over ≡ []) × (b.history ≡ [])
first_bare agents n [] i b is = cc
first_bare agents n (p ∷ ps) zero b is = (ap (λ b. b.over) (sym (inner is)), ap (λ b. b.history) (sym (inner is)))
first_bare agents n (p ∷ ps) (suc i) b is = first_bare agents (n + 1) ps i b is

going_bare : (b : AgentView) → b.over ≡ [] → b.history ≡ [] → Going b []
going_bare b bare new = record {
  run = rw (bare, new) (tt, tt);
  rising = ap (λ over. is_rising_from 0 (reverse over)) bare;
  newest_is = rw bare (omega arith);
  rack = subst (Racked b.number []) (sym (no_tickets b bare)) (record { held = tt; apart = tt; only = λ k r is other. cc });
}

pub going_first : (p : Plan) → AllGoing (first_state p)
going_first p n b is = let bare = first_bare (length p.agents) 0 p.agents n b is in going_bare b bare.0 bare.1

pub well_first : (p : Plan) → all_name_others p ≡ true → Well (first_state p)
well_first p others =
    let holds = first_holds p.agents (first_state p).agents (first_state p).ledger refl refl refl others in
    record {
      placed = holds.0;
      tied = holds.1;
      legal = (tt, refl);
      whole = refl;
      going = going_first p;
    }

pub well_all : (ns : List ℕ) (c d : ClusterView) → Well c → AllTurned ns c d → Well d
well_all [] c d w turned = subst Well (sym turned) w
well_all (n ∷ ns) c d w turned = well_all ns turned.1 d (well_turned turned.0 n c turned.1 w turned.2) turned.3

-- What a turn leaves of the plans

pub plans_turned : (p : Progress) (n : ℕ) (c d : ClusterView) → Turned p n c d → plans d.agents ≡ plans c.agents
plans_turned p n c d t = ap plans t.agents ∙ mapped_still (λ b. b.plan) c.agents n t.before t.after t.agent (takes_same p t.before t.after t.turn).1

pub quiet_turned : (p : Progress) (n : ℕ) (c d : ClusterView) → Turned p n c d → cleans_quietly c ≡ true → cleans_quietly d ≡ true
quiet_turned p n c d t quiet = ap (list_all callbacks_collect_nothing) (plans_turned p n c d t) ∙ quiet

pub quiet_all : (ns : List ℕ) (c d : ClusterView) → AllTurned ns c d → cleans_quietly c ≡ true → cleans_quietly d ≡ true
quiet_all [] c d turned quiet = subst (λ c. cleans_quietly c ≡ true) (sym turned) quiet
quiet_all (n ∷ ns) c d turned quiet = quiet_all ns turned.1 d turned.3 (quiet_turned turned.0 n c turned.1 turned.2 quiet)

pub inside_turned : (p : Progress) (n i : ℕ) (c d : ClusterView) → Turned p n c d → i < length c.agents → i < length d.agents
inside_turned p n i c d t inside = let same = ap length t.agents ∙ set_length c.agents n t.after in omega (arith, inside, same)

-- and of its agent's work
pub works_of : (p : Progress) (n : ℕ) (c d : ClusterView) → Well c → cleans_quietly c ≡ true → Turned p n c d → Works p n c d × Hears p n c d
works_of p n c d w quiet t = stepped (Ok p) n c d t.before w.placed w.tied t.agent (w.going n t.before t.agent).run quiet t
