-- What is kept of a plan's cluster along its turns, as far as its agents' own names need it.
use Rattle.std.proofs.Common.{◌≡◌, ℕ, zero, suc, ◌+◌, ◌≤◌, ◌||◌, false, true, sym, ◌∙◌, ap, refl, subst, arith, List, [], ◌∷◌, ◌++◌, length, reverse, Option, Some, None}
use Rattle.std.specs.Prelude.{slice_get}
use Rattle.es_event.specs.declared.event.Event.{Event}
use Rattle.es_event.specs.declared.ledger_event.LedgerEvent.{LedgerEvent}
use Rattle.es_event.specs.declared.plan.AgentPlan.{AgentPlan}
use Rattle.es_event.specs.declared.plan.Plan.{Plan}
use Rattle.es_event.specs.declared.row.Row.{Row}
use Rattle.es_event.specs.Identities.{made}
use Rattle.es_event.specs.Ledger.{Ledger}
use Rattle.es_event.specs.LegalLedger.{LegalSoFar}
use Rattle.es_match.specs.Patience.{has_drained}
use Rattle.es_ticket.specs.Stakes.{is_rising_from}
use Rattle.es_record.specs.AgentView.{AgentView, with_row}
use Rattle.es_record.specs.Newest.{newest}
use Rattle.es_agent.proofs.Racks.{still_rises}
use Rattle.es_cluster.specs.Tied.{AreDeedsOf}
use Rattle.es_cluster.specs.declared.member.Progress.{Progress}
use Rattle.es_cluster.specs.declared.member.Progress.TheVariants.{Moved, Waiting, Ended}
use Rattle.es_cluster.specs.State.{ClusterView, first_state, first_views}
use Rattle.es_cluster.specs.Turns.{Turned}
use Rattle.es_cluster.proofs.Standing.{by_place, within}
use Rattle.es_theorems.proofs.Running.{stands_after, stands_first}
use Rattle.es_theorems.specs.Alone.{Words}
use Rattle.es_theorems.specs.Renamed.{HasWords}
use Rattle.es_theorems.specs.Steps.{Along, HasCome, Keeps}
use Rattle.es_theorems.specs.Sleepless.{never_sleeps}
use Rattle.es_theorems.proofs.Opened.{over_later}
use Rattle.es_theorems.proofs.TurningAlike.{over_on, step}
use Rattle.es_theorems.proofs.Framing.{drains_nothing}

-- Nothing is drained

still_dry : (n : ℕ) (l : Ledger) (es : List LedgerEvent) → AreDeedsOf n es l → has_drained l ≡ false → has_drained (es ++ l) ≡ false
still_dry n l [] are dry = dry
still_dry n l (e ∷ es) are dry = ap (λ t. t || has_drained (es ++ l)) (drains_nothing (es ++ l) e n are.0.0 are.0.1) ∙ still_dry n l es are.1 dry

-- An agent

keeps_later : (n : ℕ) (es : List LedgerEvent) (l : Ledger) (b : AgentView) → LegalSoFar n (es ++ l) → Keeps l b → Keeps (es ++ l) b
keeps_later n es l b legal k = record { over = over_later n es l legal b.over k.over; rising = k.rising; newest_is = k.newest_is }

rises_next : (m : Ledger) (b : AgentView) (e : Event) (r : Option Row) → is_rising_from 0 (reverse b.over) ≡ true → newest b.over ≤ made b.history → HasCome m b.history e r
    → (is_rising_from 0 (reverse (with_row r b).over) ≡ true) × (newest (with_row r b).over ≤ made (e ∷ b.history))
rises_next m b e None rising small come = (rising, omega (arith, small))
rises_next m b e (Some q) rising small come = (still_rises b.over (made b.history + 1) q rising (omega (arith, small)), (let more = come.1 in omega (arith, more)))

keeps_moved : (n : ℕ) (c : ClusterView) (words : Words) (i : ℕ) (d : ClusterView) → Along n c → HasWords n c.ledger.history words → (turn : Turned Moved i c d) → Keeps d.ledger.history turn.after
keeps_moved n c words i d along holds turn =
    let s = step n c words i d along holds turn in
    let b = turn.before in
    let was = along.each i b turn.agent in
    let rises = rises_next d.ledger.history b s.event s.row was.rising was.newest_is s.means.comes in
    subst (Keeps d.ledger.history) (sym s.is) (record {
      over = over_on n c i d.ledger.history b s.event s.row s.deeds s.at s.means.comes;
      rising = rises.0;
      newest_is = rises.1;
    })

-- A cluster

along_after : (n : ℕ) (p : Progress) (i : ℕ) (c d : ClusterView) → Along n c → (turn : Turned p i c d) → Keeps d.ledger.history turn.after → Along n d
along_after n p i c d x turn mine = record {
  stands = stands_after p i c d x.stands turn;
  number = turn.number ∙ x.number;
  legal = legal;
  dry = ap has_drained turn.ledger.1 ∙ still_dry i c.ledger.history turn.ledger.0 turn.ledger.2 x.dry;
  each = λ j b is. by_place (λ j b. Keeps d.ledger.history b) c.agents i turn.after (within c.agents i turn.before turn.agent) mine (λ j a other there. later a (x.each j a there)) j b (ap (λ bs. slice_get bs j) (sym turn.agents) ∙ is);
}
  where
    legal : LegalSoFar n d.ledger.history
    legal = subst (λ k. LegalSoFar k d.ledger.history) (turn.number ∙ x.number) turn.legal.0

    later : (a : AgentView) → Keeps c.ledger.history a → Keeps d.ledger.history a
    later a k = subst (λ m. Keeps m a) (sym turn.ledger.1) (keeps_later n turn.ledger.0 c.ledger.history a (subst (LegalSoFar n) turn.ledger.1 legal) k)

still : (n : ℕ) (p : Progress) (i : ℕ) (c d : ClusterView) → Along n c → (turn : Turned p i c d) → turn.after ≡ turn.before → Along n d
still n p i c d x turn same =
    let legal : LegalSoFar n d.ledger.history = subst (λ k. LegalSoFar k d.ledger.history) (turn.number ∙ x.number) turn.legal.0 in
    along_after n p i c d x turn
    (subst (Keeps d.ledger.history) (sym same) (subst (λ m. Keeps m turn.before) (sym turn.ledger.1) (keeps_later n turn.ledger.0 c.ledger.history turn.before (subst (LegalSoFar n) turn.ledger.1 legal) (x.each i turn.before turn.agent))))

pub along_turn : (n : ℕ) (p : Progress) (i : ℕ) (c : ClusterView) (words : Words) (d : ClusterView) → Along n c → HasWords n c.ledger.history words → Turned p i c d → Along n d
along_turn n Moved i c words d x holds turn = along_after n Moved i c d x turn (keeps_moved n c words i d x holds turn)
along_turn n Waiting i c words d x holds turn = still n Waiting i c d x turn turn.turn.1
along_turn n Ended i c words d x holds turn = still n Ended i c d x turn turn.turn.1

-- Before the first event

first_keeps : (agents n : ℕ) (ps : List AgentPlan) (i : ℕ) (b : AgentView) → slice_get (first_views agents n ps) i ≡ Some b → Keeps [] b
first_keeps agents n [] i b is = cc
first_keeps agents n (p ∷ ps) zero b is =
    subst (Keeps []) (let same : record { plan = p; number = n; agents = agents; over = []; history = [] } ≡ b = cc in same) (record { over = tt; rising = refl; newest_is = omega arith })
first_keeps agents n (p ∷ ps) (suc i) b is = first_keeps agents (n + 1) ps i b is

pub along_first : (plan : Plan) → never_sleeps plan ≡ true → Along (length plan.agents) (first_state plan)
along_first plan calm = record { stands = stands_first plan calm; number = refl; legal = tt; dry = refl; each = λ i b is. first_keeps (length plan.agents) 0 plan.agents i b is }

-- all words are 0
pub words_first : (n : ℕ) → HasWords n [] (λ b x. 0)
words_first n = record { named_so = λ b x some less. absurd (omega (arith, some, less)); others = λ c x none. refl }
