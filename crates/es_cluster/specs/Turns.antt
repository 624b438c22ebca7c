-- To believe: what a turn of an agent, and a list of turns, make of a cluster.
use Rattle.std.specs.Prelude.{ℕ, ◌≡◌, true, false, List, [], ◌∷◌, ◌++◌, Some, slice_get, slice_set}
use Rattle.es_event.specs.LegalLedger.{LegalLedger}
use Rattle.es_cluster.specs.Tied.{GrowsBy}
use Rattle.es_cluster.specs.Turned.{WaitsRightly, IsSeated, IsTiedAfter, GrowsByOne, MayWait}
use Rattle.es_cluster.specs.declared.member.Progress.{Progress}
use Rattle.es_cluster.specs.declared.member.Progress.TheVariants.{Moved, Waiting, Ended}
use Rattle.es_record.specs.AgentView.{AgentView}
use Rattle.es_rules.specs.Needs.{asks_nothing, need}
use Rattle.es_cluster.specs.State.{ClusterView}

-- the agent has one event more, or waits on for a message or at a word, or has ended
abbrev pub Takes : Progress → AgentView → AgentView → Type 0
Takes Moved old new = GrowsByOne old new
Takes Waiting old new = MayWait (need old) × (new ≡ old)
Takes Ended old new = (need old ≡ asks_nothing) × (new ≡ old)

-- agent n took its turn: no other agent has changed, and the ledger has deeds of agent n alone besides
pub record Turned (p : Progress) (n : ℕ) (old new : ClusterView) : Type 0 where
  pub before : AgentView
  pub after : AgentView
  pub agent : slice_get old.agents n ≡ Some before
  pub agents : new.agents ≡ slice_set old.agents n after
  pub turn : Takes p before after
  pub told : WaitsRightly p before old.ledger new.ledger
  pub ledger : GrowsBy n old.ledger.history new.ledger.history
  pub number : new.ledger.agents ≡ old.ledger.agents
  -- what it did there the ledger's rules allow
  pub legal : LegalLedger new.ledger.agents new.ledger.history
  -- the agent and its part in the ledger go together; where it has one event more it waits for nobody yet, and is awake
  pub tied : IsTiedAfter p after new.ledger.history
  -- it has ended in the ledger where it has closed
  pub seated : IsSeated after new.ledger
  pub whole : (old.failed ≡ false) × (new.failed ≡ false)

-- so did these agents, one after the other
abbrev pub AllTurned : List ℕ → ClusterView → ClusterView → Type 0
AllTurned [] old new = new ≡ old
AllTurned (n ∷ ns) old new = (p : Progress) × (mid : ClusterView) × Turned p n old mid × AllTurned ns mid new

-- the turn of agent n ended for want of memory: no agent has changed, and what the ledger did are deeds of agent n alone
pub record Stopped (n : ℕ) (old new : ClusterView) : Type 0 where
  pub agents : new.agents ≡ old.agents
  pub ledger : GrowsBy n old.ledger.history new.ledger.history
  pub number : new.ledger.agents ≡ old.ledger.agents
  pub failed : new.failed ≡ true

-- of these turns some were taken, and the next ended for want of memory; or one had failed before, and nothing has changed
pub data StoppedIn (turns : List ℕ) (old new : ClusterView) : Type 0 where
  before : old.failed ≡ true → new ≡ old → StoppedIn turns old new
  within : (done rest : List ℕ) (n : ℕ) (mid : ClusterView) → turns ≡ done ++ n ∷ rest → AllTurned done old mid → Stopped n mid new → StoppedIn turns old new
