-- What agents that ran beside each other came to.
use Rattle.std.proofs.Common.{◌≡◌, ℕ, ◌<◌, List, [], ◌∷◌, refl, map, reverse, length, sym, ap, ◌∙◌, subst, arith, true, false}
use Rattle.es_event.specs.declared.outcome.Outcome.{Outcome}
use Rattle.es_event.specs.declared.plan.Plan.{Plan}
use Rattle.es_event.specs.Ledger.{Ledger, count, port_of, table}
use Rattle.es_event.specs.LegalLedger.{LegalLedger, all_ended}
use Rattle.es_event.specs.Rows.{held}
use Rattle.es_ledger.proofs.Mailed.{none_counted}
use Rattle.es_ledger.specs.LedgerView.{LedgerView}
use Rattle.es_match.proofs.Accounts.{as_cluster}
use Rattle.es_match.specs.Cluster.{HaveCome, IsCluster, IsClusterOf}
use Rattle.es_record.specs.AgentView.{AgentView}
use Rattle.es_registry.specs.declared.slot.Tally.{Tally}
use Rattle.es_report.specs.Tallies.{AreTallies, end_tally}
use Rattle.es_cluster.proofs.Ended.{there}
use Rattle.es_cluster.specs.Ends.{AreHistories, HaveNoTicket}
use Rattle.es_cluster.specs.State.{accounts, plans}
use Rattle.es_outcome.specs.Outcomes.{IsClusterOutcome, at_last}
use Rattle.es_outcome.specs.Places.{AreAtPlaces, ArePlanned, SomeGoesOn}
use Rattle.es_outcome.proofs.Closing.{over_in_cluster, over_last}
use Rattle.es_outcome.proofs.Placed.{planned}
use Rattle.es_outcome.proofs.Telling.{as_told, of_told, told_histories}
use Rattle.es_outcome.specs.Said.{IsTold, said_by}
use Rattle.es_outcome.proofs.Tallied.{of_cores, of_events}

none_held : (bs : List AgentView) (l : Ledger) (n : ℕ) → length bs ≡ n → AreAtPlaces bs → HaveNoTicket bs l → (a : ℕ) → a < n → held a (table l) ≡ []
none_held bs l n size placed none a less =
    let found = there bs a (omega (arith, size, less)) in
    ap (λ k. held k (table l)) (sym (placed a found.0 found.1)) ∙ none a found.0 found.1

pub told_plans : (bs : List AgentView) → map (λ a. a.plan) (accounts bs) ≡ plans bs
told_plans [] = refl
told_plans (b ∷ bs) = ap (λ ps. b.plan ∷ ps) (told_plans bs)

-- no ticket of any block is left, where the agents have none and no message is left
pub none_left : (bs : List AgentView) (n : ℕ) (l : Ledger) → length bs ≡ n → AreAtPlaces bs → LegalLedger n l → HaveNoTicket bs l → ((s r : ℕ) → port_of l s r ≡ []) → (b : ℕ) → count l b ≡ 0
none_left bs n l number placed legal none empty = none_counted n l legal.0 legal.1 (none_held bs l n number placed none) empty

-- an outcome of the plan, where the histories match and what came to each agent is what it says
pub comes_to : (p : Plan) (bs : List AgentView) (n : ℕ) (o : Outcome) → length bs ≡ length p.agents → length bs ≡ n → AreAtPlaces bs → ArePlanned p bs → o.names ≡ map (λ a. a.name) p.agents
    → AreHistories bs o.histories → LegalLedger n (reverse o.ledger) → IsTold (map (λ h. reverse h) o.histories) (reverse o.ledger) (map said_by bs) → HaveNoTicket bs (reverse o.ledger)
    → ((s r : ℕ) → port_of (reverse o.ledger) s r ≡ []) → IsClusterOutcome p o
comes_to p bs n o size number placed each names histories legal told none empty = record {
  names = names;
  agents = accounts bs;
  runs = record {
    plans_are = told_plans bs ∙ planned p bs size placed each;
    histories_are = told_histories bs ∙ sym histories.are;
    whole = histories.runs;
  };
  legal = subst (λ k. LegalLedger k (reverse o.ledger)) (sym number ∙ size) legal;
  cluster = of_told bs (reverse o.ledger) told.came (subst (λ hs. HaveCome hs (reverse o.ledger) told.came) histories.are told.have) told.said;
  tickets = none_left bs n (reverse o.ledger) number placed legal none empty;
  messages = empty;
}

pub tallies_are : (bs : List AgentView) (o : Outcome) (ts : List Tally) → AreHistories bs o.histories → ts ≡ map (λ b. end_tally b.history) bs → AreTallies o.histories ts
tallies_are bs o ts histories are = are ∙ of_cores bs ∙ ap (map end_tally) (sym histories.are) ∙ sym (of_events o.histories)

-- where one goes on, the histories are not those of a cluster whose agents all count as ended
pub goes_on_alone : (bs : List AgentView) (l : LedgerView) → SomeGoesOn bs → length bs ≡ l.agents → IsClusterOf (accounts bs) (at_last l) → ⊥
goes_on_alone bs l going size cluster =
    let over = over_in_cluster bs (at_last l) going.number going.core (subst (λ hs. IsCluster hs (at_last l)) (told_histories bs) (as_cluster (accounts bs) (at_last l) cluster)) (subst (λ n. all_ended (at_last l) n ≡ true) (sym size) (over_last l.agents l.history)) going.here going.run in
    let clash : false ≡ true = sym going.going ∙ over in
    cc

-- what is told of nobody is the end of no such agents
pub not_told : (bs : List AgentView) (l : LedgerView) (o : Outcome) → AreHistories bs o.histories → reverse o.ledger ≡ at_last l → (IsTold (map (λ h. reverse h) o.histories) (reverse o.ledger) (map said_by bs) → ⊥)
    → IsClusterOf (accounts bs) (at_last l) → ⊥
not_told bs l o histories ledger never cluster =
    never (subst (λ hs. IsTold hs (reverse o.ledger) (map said_by bs)) (sym histories.are) (subst (λ l. IsTold (map (λ b. b.history) bs) l (map said_by bs)) (sym ledger) (as_told bs (at_last l) cluster)))
