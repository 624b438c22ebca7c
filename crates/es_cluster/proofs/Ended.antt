-- What comes of a cluster whose agents have all ended.
use Rattle.std.proofs.Common.{◌≡◌, ℕ, zero, suc, ◌<◌, true, sym, ◌∙◌, ap, subst, arith, List, [], ◌∷◌, refl, reverse, length, Some}
use Rattle.std.specs.Prelude.{slice_get}
use Rattle.es_event.specs.declared.outcome.Outcome.{Outcome}
use Rattle.es_event.specs.Ledger.{count, port_of, table}
use Rattle.es_event.specs.LegalLedger.{LegalLedger, all_ended}
use Rattle.es_event.specs.Rows.{held}
use Rattle.es_ledger.specs.LedgerView.{LedgerView}
use Rattle.es_ledger.specs.Draining.{after_drain}
use Rattle.es_match.specs.Cluster.{IsClusterOf}
use Rattle.es_record.specs.AgentView.{AgentView}
use Rattle.es_cluster.specs.Ends.{AreHistories, HaveNoTicket, EndsIn}
use Rattle.es_cluster.specs.State.{ClusterView, ArePlaced, AreTied, accounts, names_of}
use Rattle.es_cluster.proofs.Draining.{drained_stands}
use Rattle.es_ledger.proofs.Mailed.{none_counted}
use Rattle.es_cluster.proofs.Standing.{are_cluster}

-- an agent stands at each place
pub there : (bs : List AgentView) (i : ℕ) → i < length bs → (b : AgentView) × (slice_get bs i ≡ Some b)
there [] i within = absurd (omega (arith, within))
there (b ∷ bs) zero within = (b, refl)
there (b ∷ bs) (suc i) within = there bs i (omega (arith, within))

-- no agent holds a ticket
none_below : (bs : List AgentView) (l : LedgerView) → ArePlaced bs l → HaveNoTicket bs l.history → (a : ℕ) → a < l.agents → held a (table l.history) ≡ []
none_below bs l placed none a within =
    let found = there bs a (let size = placed.size in omega (arith, size, within)) in
    ap (λ n. held n (table l.history)) (sym (placed.each a found.0 found.1).number) ∙ none a found.0 found.1

pub ends_in : (c : ClusterView) (m : LedgerView) (o : Outcome) → ArePlaced c.agents c.ledger → AreTied c.agents c.ledger → LegalLedger c.ledger.agents c.ledger.history → all_ended c.ledger.history c.ledger.agents ≡ true
    → m.agents ≡ c.ledger.agents → m.history ≡ after_drain c.ledger.history c.ledger.agents → o.names ≡ names_of c.agents → AreHistories c.agents o.histories
    → reverse o.ledger ≡ m.history → LegalLedger m.agents m.history → HaveNoTicket c.agents m.history → ((s r : ℕ) → port_of m.history s r ≡ []) → EndsIn c o
ends_in c m o placed tied legal over agents history names histories events legal_end none empty = record {
  names = names;
  agents = histories;
  ledger = events ∙ history;
  legal = subst (λ n. LegalLedger n (reverse o.ledger)) agents (subst (LegalLedger m.agents) (sym events) legal_end);
  cluster = subst (IsClusterOf (accounts c.agents)) (sym events) (are_cluster c.agents m stands.0 stands.1);
  tickets = λ b. ap (λ l. count l b) events ∙ none_counted m.agents m.history legal_end.0 legal_end.1 (none_below c.agents m stands.0 none) empty b;
  messages = λ s r. ap (λ l. port_of l s r) events ∙ empty s r;
}
  where
    stands : ArePlaced c.agents m × AreTied c.agents m × (all_ended m.history m.agents ≡ true)
    stands = drained_stands c.agents c.ledger m placed tied legal over agents history
