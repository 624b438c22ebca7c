-- Internal: a cluster in the middle of a run by turns, and two that tell the same.
use Rattle.std.specs.Prelude.{ℕ, ◌≡◌, ⊤, true, length, None, Some, slice_get}
use Rattle.es_event.specs.declared.plan.AgentPlan.{AgentPlan}
use Rattle.es_event.specs.LegalLedger.{owed}
use Rattle.es_event.specs.Runs.{IsRunOver}
use Rattle.es_cluster.specs.Tied.{IsTied}
use Rattle.es_cluster.specs.Turned.{IsSeated}
use Rattle.es_record.specs.AgentView.{AgentView}
use Rattle.es_cluster.specs.State.{ClusterView}
use Rattle.es_theorems.specs.Alike.{Alike}
use Rattle.es_theorems.specs.Sleepless.{never_sleeps_in}

-- it is agent n, with its place and its part in the ledger; its history is a run of its plan so far; and this is said of the plan
pub record StandsAtBy (Says : AgentPlan → Type 0) (c : ClusterView) (n : ℕ) (b : AgentView) : Type 0 where
  pub number : b.number ≡ n
  pub tied : IsTied b c.ledger.history
  pub seated : IsSeated b c.ledger
  pub run : IsRunOver b.over b.plan b.history
  pub calm : Says b.plan

-- so is each agent, and nothing was drained yet
pub record StandsBy (Says : AgentPlan → Type 0) (c : ClusterView) : Type 0 where
  pub size : length c.agents ≡ c.ledger.agents
  pub each : (n : ℕ) (b : AgentView) → slice_get c.agents n ≡ Some b → StandsAtBy Says c n b
  pub undrained : owed c.ledger.history ≡ None

abbrev pub NeverSleeps : AgentPlan → Type 0
NeverSleeps p = never_sleeps_in p ≡ true

abbrev pub AnyPlan : AgentPlan → Type 0
AnyPlan p = ⊤

-- of agents that never sleep
abbrev pub StandsAt : ClusterView → ℕ → AgentView → Type 0
StandsAt c n b = StandsAtBy NeverSleeps c n b

abbrev pub Stands : ClusterView → Type 0
Stands c = StandsBy NeverSleeps c

-- the same agents, and ledgers that tell the same
pub record Same (c d : ClusterView) : Type 0 where
  pub agents : c.agents ≡ d.agents
  pub number : c.ledger.agents ≡ d.ledger.agents
  pub ledgers : Alike c.ledger.history d.ledger.history

-- of any agents
pub record Together (c d : ClusterView) : Type 0 where
  pub left : StandsBy AnyPlan c
  pub right : StandsBy AnyPlan d
  pub same : Same c d
