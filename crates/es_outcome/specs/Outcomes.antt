-- To believe: what a run of all agents of a plan comes to, and when histories are those of no such run.
use Rattle.std.specs.Prelude.{ℕ, ◌≡◌, List, [], length, map, reverse}
use Rattle.std.specs.List.{AllByRecursion}
use Rattle.es_event.specs.declared.event.Event.{Event}
use Rattle.es_event.specs.declared.outcome.Outcome.{Outcome}
use Rattle.es_event.specs.declared.plan.AgentPlan.{AgentPlan}
use Rattle.es_event.specs.declared.plan.Plan.{Plan}
use Rattle.es_event.specs.Ledger.{Ledger, count, port_of}
use Rattle.es_event.specs.LegalLedger.{LegalLedger}
use Rattle.es_ledger.specs.LedgerView.{LedgerView}
use Rattle.es_ledger.specs.Draining.{after_drain}
use Rattle.es_match.specs.Cluster.{Account, IsClusterOf}
use Rattle.es_record.specs.AgentView.{AgentView}
use Rattle.es_cluster.specs.Ends.{IsWhole, with_ends}
use Rattle.es_cluster.specs.State.{accounts}
use Rattle.es_outcome.specs.Places.{AreAtPlaces}

-- these agents have these plans and, the oldest event first, these histories, each a whole run of its plan, over what the tickets of its
-- buffer objects named
pub record AreRuns (plans : List AgentPlan) (hs : List (List Event)) (all : List Account) : Type 0 where
  pub plans_are : map (λ a. a.plan) all ≡ plans
  pub histories_are : map (λ a. a.history) all ≡ map (λ h. reverse h) hs
  pub whole : AllByRecursion IsWhole all

-- the names of the plan, and whole runs of its agents; the ledger's history is legal, and with it theirs are those of one cluster: each
-- buffer object is over what its own ticket names, and each message that found no room was one of the sender that its job names; no
-- ticket of any block and no message is left (Agents and Agent Clusters)
pub record IsClusterOutcome (p : Plan) (o : Outcome) : Type 0 where
  pub names : o.names ≡ map (λ a. a.name) p.agents
  pub agents : List Account
  pub runs : AreRuns p.agents o.histories agents
  pub legal : LegalLedger (length p.agents) (reverse o.ledger)
  pub cluster : IsClusterOf agents (reverse o.ledger)
  pub tickets : (b : ℕ) → count (reverse o.ledger) b ≡ 0
  pub messages : (s r : ℕ) → port_of (reverse o.ledger) s r ≡ []

-- the ledger's history, once each of its agents counts as ended and the messages that nobody took are taken out
abbrev pub at_last : LedgerView → Ledger
at_last l = after_drain (with_ends l.agents l.history) l.agents

-- some agent is not in its place, or is none of the ledger's, or the ledger's is not there; or what they say is not that of one cluster
-- with the ledger's history at last
abbrev pub DoNotMatch : List AgentView → LedgerView → Type 0
DoNotMatch bs l = AreAtPlaces bs → length bs ≡ l.agents → IsClusterOf (accounts bs) (at_last l) → ⊥
