-- An agent takes a turn, whose deeds are the first of those that follow.
use Rattle.std.proofs.Common.{◌≡◌, ℕ, false, sym, ◌∙◌, ap, refl, subst, arith, List, [], ◌∷◌, ◌++◌, take, drop, reverse, Option, Some, None}
use Rattle.std.specs.Prelude.{slice_get, slice_set}
use Rattle.std.proofs.lemmas.List.{take-append-drop, append_cancel_left}
use Rattle.es_event.specs.declared.event.Event.{Event}
use Rattle.es_event.specs.declared.ledger_event.LedgerEvent.{LedgerEvent}
use Rattle.es_event.specs.Follows.{Follows}
use Rattle.es_event.specs.Jobs.{receivers}
use Rattle.es_event.specs.Ledger.{Ledger, ended as has_ended, waits}
use Rattle.es_event.specs.Legal.{LegalBy}
use Rattle.es_event.specs.LegalLedger.{LegalSoFar, owed}
use Rattle.es_event.specs.Order.{phase}
use Rattle.es_event.specs.Runs.{IsRunOver}
use Rattle.es_event.specs.Waiters.{asleep}
use Rattle.es_match.specs.Deeds.{Deed, part}
use Rattle.es_match.specs.Asks.{between_jobs, ends_job}
use Rattle.es_match.specs.Cluster.{Account, account_of, refused_senders}
use Rattle.es_match.specs.Goes.{goes}
use Rattle.es_match.proofs.Bridge.{reverse_cons}
use Rattle.es_record.specs.AgentView.{AgentView}
use Rattle.es_agent.specs.Tickets.{is_ended}
use Rattle.es_cluster.specs.Tied.{GrowsBy, IsSettled, came_to}
use Rattle.es_cluster.specs.Turned.{WaitsRightly}
use Rattle.es_cluster.specs.declared.member.Progress.{Progress}
use Rattle.es_cluster.specs.declared.member.Progress.TheVariants.{Moved}
use Rattle.es_cluster.proofs.Growing.{part_stays}
use Rattle.es_cluster.specs.Ends.{IsWhole}
use Rattle.es_cluster.specs.State.{ClusterView}
use Rattle.es_cluster.specs.Turns.{Turned}
use Rattle.es_cluster.proofs.Standing.{by_place, set_here, within}
use Rattle.es_cluster.proofs.Midway.{no_sleep}
use Rattle.es_theorems.specs.Going.{AllGoing}
use Rattle.es_theorems.specs.Together.{AnyPlan, StandsAtBy}
use Rattle.es_theorems.proofs.Running.{stands_after}
use Rattle.es_theorems.proofs.Turning.{still_owes_nothing}
use Rattle.es_theorems.specs.Ahead.{ahead, played}
use Rattle.es_theorems.specs.Grown.{Unfolded, deeds_asked, grown}
use Rattle.es_theorems.specs.Underway.{Left, Turn, Underway}
use Rattle.es_theorems.proofs.Gathering.{legal_far, steps_apart, steps_first}
use Rattle.es_theorems.proofs.Playing.{ahead_append, last_played, part_played, patient_played}
use Rattle.es_theorems.proofs.Unfolding.{unfolds}
use Rattle.es_theorems.proofs.Cluster.{all_going}

-- what is left when the first are taken
pub rest_is : (k : ℕ) (ds xs ys : List Deed) → xs ≡ take k ds → ds ≡ xs ++ ys → drop k ds ≡ ys
rest_is k ds xs ys first whole = append_cancel_left (take k ds) (drop k ds) ys (take-append-drop k ds ∙ whole ∙ ap (λ xs. xs ++ ys) first)

-- the next event of an agent on its way
pub next_of : (a : Account) (b : AgentView) (ds : List Deed) (e : Event) (rest : List Event) → IsRunOver b.over b.plan b.history → IsWhole a → (left : Left a b ds) → left.rest ≡ e ∷ rest → Unfolded b e rest ds left.final
next_of a b ds e rest history whole left is =
    unfolds a.over b e rest ds left.final history
    (subst (λ p. LegalBy a.over (receivers p.jobs) (reverse (e ∷ rest) ++ b.history)) (sym left.plan) (subst (LegalBy a.over (receivers a.plan.jobs)) all whole.0))
    (subst (λ p. Follows a.over p (reverse (e ∷ rest) ++ b.history)) (sym left.plan) (subst (Follows a.over a.plan) all whole.1.0))
    (ap (λ es. goes (between_jobs b.history) (came_to b) es ds) (sym is) ∙ left.go)
    left.said.buffers
    (left.said.senders ∙ ap (refused_senders a.plan) all ∙ ap (λ p. refused_senders p (reverse (e ∷ rest) ++ b.history)) (sym left.plan))
  where
    all : a.history ≡ reverse (e ∷ rest) ++ b.history
    all = left.history ∙ ap (λ es. reverse es ++ b.history) is

-- its agents go on, whatever turn is taken
pub going_after : (n : ℕ) (all : List Account) (c : ClusterView) (es : List LedgerEvent) (p : Progress) (i : ℕ) (d : ClusterView) → Underway n all c es → Turned p i c d → AllGoing d
going_after n all c es p i d u turned =
    all_going p i c d (λ j b is. let was = u.stands.each j b is in (was.number, was.tied)) (subst (λ k. LegalSoFar k c.ledger.history) (sym u.number) u.legal, u.stands.undrained) u.going turned

pub turn : (n : ℕ) (all : List Account) (c : ClusterView) (xs ys : List LedgerEvent) (i : ℕ) (b : AgentView) (e : Event) (rest : List Event) → (u : Underway n all c (xs ++ ys)) → (here : slice_get c.agents i ≡ Some b)
    → (left : Left (account_of all i) b (ahead (xs ++ ys) c.ledger.history i)) → left.rest ≡ e ∷ rest → (x : Unfolded b e rest (ahead (xs ++ ys) c.ledger.history i) left.final)
    → GrowsBy i c.ledger.history (played xs c.ledger.history) → ((j : ℕ) → (j ≡ i → ⊥) → ahead xs c.ledger.history j ≡ []) → ahead xs c.ledger.history i ≡ take (deeds_asked b e) (ahead (xs ++ ys) c.ledger.history i)
    → waits (played xs c.ledger.history) i ≡ None → asleep (played xs c.ledger.history) i ≡ false → has_ended (played xs c.ledger.history) i ≡ is_ended (phase (e ∷ b.history)) → WaitsRightly Moved b c.ledger (record { agents = c.ledger.agents; history = played xs c.ledger.history })
    → Turn n all c i (grown b x.row e) (played xs c.ledger.history) ys rest
turn n all c xs ys i b e rest u here left is x grows others deeds free awake over told = record {
  after = after;
  turned = turned;
  on = record {
    stands = stands_after Moved i c after u.stands turned;
    going = going_after n all c (xs ++ ys) Moved i after u turned;
    number = u.number;
    legal = legal;
    whole = refl;
    steps = steps_apart n xs ys m u.steps;
    waits_end = patient_played n xs m (steps_first n xs ys m u.steps) u.waits_end;
    drains_end = last_played n xs m (steps_first n xs ys m u.steps) u.drains_end;
    strangers = λ a beyond. part_stays i a m (played xs m) grows (λ same. let known = was.seated.known in let place = was.number in let size = u.number in omega (arith, same, known, place, size, beyond)) ∙ u.strangers a beyond;
    left = by_place (λ j b. Left (account_of all j) b (ahead ys (played xs m) j)) c.agents i new (within c.agents i b here) mine theirs;
  };
  history = refl;
  agent = set_here c.agents i new (within c.agents i b here);
  mine = mine;
  mine_is = refl;
}
  where
    m : Ledger
    m = c.ledger.history

    new : AgentView
    new = grown b x.row e

    after : ClusterView
    after = record { agents = slice_set c.agents i new; ledger = record { agents = c.ledger.agents; history = played xs m }; failed = false }

    was : StandsAtBy AnyPlan c i b
    was = u.stands.each i b here

    legal : LegalSoFar n (played xs m)
    legal = legal_far n xs m u.legal (steps_first n xs ys m u.steps)

    split : part (played xs m) b.number ≡ part m b.number ++ take (deeds_asked b e) (ahead (xs ++ ys) m i)
    split = part_played xs m b.number ∙ ap (λ ds. part m b.number ++ ds) (ap (ahead xs m) was.number ∙ deeds)

    up : asleep (played xs m) b.number ≡ false
    up = ap (asleep (played xs m)) was.number ∙ awake

    settled : IsSettled new (played xs m)
    settled = record {
      tied = record {
        ties = (part m b.number, take (deeds_asked b e) (ahead (xs ++ ys) m i), came_to b, split, was.tied.ties, x.met);
        awaits = λ s waiting. (let clash : ◌≡◌ {A = Option ℕ} None (Some s) = sym free ∙ ap (waits (played xs m)) (sym was.number) ∙ waiting in cc);
        sleeps = λ s is. absurd (no_sleep (played xs m) b.number s up is);
        waits_end = patient_played n xs m (steps_first n xs ys m u.steps) was.tied.waits_end;
        drains_end = last_played n xs m (steps_first n xs ys m u.steps) was.tied.drains_end;
      };
      free = ap (waits (played xs m)) was.number ∙ free;
      awake = up;
    }

    turned : Turned Moved i c after
    turned = record {
      before = b;
      after = new;
      agent = here;
      agents = refl;
      turn = (e, x.row, x.next, refl);
      told = told;
      ledger = grows;
      number = refl;
      legal = (subst (λ k. LegalSoFar k (played xs m)) (sym u.number) legal, subst (λ l. owed l ≡ None) (sym grows.1) (still_owes_nothing i m grows.0 grows.2 u.stands.undrained));
      tied = settled;
      seated = record { known = was.seated.known; agents = was.seated.agents; over = ap (has_ended (played xs m)) was.number ∙ over };
      whole = (u.whole, refl);
    }

    mine : Left (account_of all i) new (ahead ys (played xs m) i)
    mine = record {
      plan = left.plan;
      rest = rest;
      history = left.history ∙ ap (λ es. reverse es ++ b.history) is ∙ reverse_cons e rest b.history;
      final = left.final;
      go = ap (goes (ends_job e) (came_to new) rest) (sym (rest_is (deeds_asked b e) (ahead (xs ++ ys) m i) (ahead xs m i) (ahead ys (played xs m) i) deeds (ahead_append xs ys m i))) ∙ x.goes_on;
      said = left.said;
    }

    theirs : (j : ℕ) (d : AgentView) → (j ≡ i → ⊥) → slice_get c.agents j ≡ Some d → Left (account_of all j) d (ahead ys (played xs m) j)
    theirs j d other is =
        subst (Left (account_of all j) d) (ahead_append xs ys m j ∙ ap (λ ds. ds ++ ahead ys (played xs m) j) (others j other)) (u.left j d is)
