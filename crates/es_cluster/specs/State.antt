-- To believe: what contracts see of a cluster, and what holds of it at any time.
use Rattle.std.specs.Prelude.{ℕ, ◌≡◌, ◌≤◌, ◌+◌, Bool, true, false, List, [], ◌∷◌, Some, length, map, slice_get}
use Rattle.es_event.specs.declared.plan.AgentPlan.{AgentPlan}
use Rattle.es_event.specs.declared.plan.Plan.{Plan}
use Rattle.es_event.specs.Others.{names_others}
use Rattle.es_match.specs.Patience.{patient, drained_last}
use Rattle.es_match.specs.Cluster.{Account}
use Rattle.es_match.specs.Deeds.{part}
use Rattle.es_ledger.specs.LedgerView.{LedgerView}
use Rattle.es_record.specs.AgentView.{AgentView}
use Rattle.es_cluster.specs.Members.{MemberView}
use Rattle.es_cluster.specs.Tied.{IsTied}
use Rattle.es_cluster.specs.Turned.{IsSeated}

-- the agents, by rising number, their ledger, and whether a step of one ended for want of memory
pub record ClusterView : Type 0 where
  pub agents : List AgentView
  pub ledger : LedgerView
  pub failed : Bool

abbrev pub cores : List MemberView → List AgentView
cores ms = map (λ m. m.core) ms

abbrev pub plans : List AgentView → List AgentPlan
plans bs = map (λ b. b.plan) bs

abbrev pub names_of : List AgentView → List (List ℕ)
names_of bs = map (λ b. b.plan.name) bs

-- what an agent says of itself
abbrev pub account : AgentView → Account
account b = record { plan = b.plan; over = b.over; history = b.history }

abbrev pub accounts : List AgentView → List Account
accounts bs = map account bs

-- it is agent n, it has its place in the ledger, and its plan names other agents alone
pub record IsPlaced (l : LedgerView) (n : ℕ) (b : AgentView) : Type 0 where
  pub number : b.number ≡ n
  pub seated : IsSeated b l
  pub others : names_others l.agents n b.plan ≡ true

-- so is each, whatever came of their steps
pub record ArePlaced (bs : List AgentView) (l : LedgerView) : Type 0 where
  pub size : length bs ≡ l.agents
  pub each : (n : ℕ) (b : AgentView) → slice_get bs n ≡ Some b → IsPlaced l n b

-- the history of each, its tickets and its part in the ledger's history go together, and nobody else has a part in it
pub record AreTied (bs : List AgentView) (l : LedgerView) : Type 0 where
  pub each : (n : ℕ) (b : AgentView) → slice_get bs n ≡ Some b → IsTied b l.history
  pub strangers : (a : ℕ) → l.agents ≤ a → part l.history a ≡ []
  pub waits_end : patient l.history ≡ true
  pub drains_end : drained_last l.history ≡ true

-- the agents of these plans, of which the first is agent n of so many, before their first events
abbrev pub first_views : ℕ → ℕ → List AgentPlan → List AgentView
first_views agents n [] = []
first_views agents n (p ∷ ps) = record { plan = p; number = n; agents = agents; over = []; history = [] } ∷ first_views agents (n + 1) ps

-- the cluster of a plan, before the first event
abbrev pub first_state : Plan → ClusterView
first_state p = record {
  agents = first_views (length p.agents) 0 p.agents;
  ledger = record { agents = length p.agents; history = [] };
  failed = false;
}
