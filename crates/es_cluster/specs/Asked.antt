-- Internal: agents that were asked to move, and how much work is left to an agent.
use Rattle.std.specs.Prelude.{ℕ, ◌≡◌, ◌⊎◌, ◌+◌, ◌<◌, Bool, true, false, Option, Some, None, slice_get, if◌then◌else◌}
use Rattle.std.specs.List.{sum_by}
use Rattle.std.specs.Option.{option_map_or}
use Rattle.es_record.specs.AgentView.{AgentView}
use Rattle.es_event.proofs.Work.{plan_work, cleanup_work}
use Rattle.es_event.specs.Ledger.{ended}
use Rattle.es_event.specs.LegalLedger.{all_ended, all_stuck}
use Rattle.es_event.specs.Order.{is_cleaning_up}
use Rattle.es_event.specs.Waiters.{asleep}
use Rattle.es_cluster.specs.declared.member.Progress.{Progress}
use Rattle.es_cluster.specs.declared.moving.Begun.{Begun}
use Rattle.es_cluster.specs.declared.member.Progress.TheVariants.{Moved, Waiting, Ended}
use Rattle.es_cluster.specs.State.{ClusterView}
use Rattle.es_cluster.specs.Turns.{Turned}
use Rattle.es_cluster.specs.Moves.{BeginsToSleep, Rest, RunsOut, all_over, mover, rests, rests_at}

-- what agent n has left to do in its plan, and on its cleanup queue
abbrev pub plan_left : ℕ → ClusterView → ℕ
plan_left n c = option_map_or (λ b. plan_work b.plan b.history) (slice_get c.agents n) 0

abbrev pub cleanup_left : ℕ → ClusterView → ℕ
cleanup_left n c = option_map_or (λ b. cleanup_work b.plan b.history) (slice_get c.agents n) 0

abbrev pub cleans_at : ℕ → ClusterView → Bool
cleans_at n c = option_map_or (λ b. is_cleaning_up b.history) (slice_get c.agents n) false

-- what all have left to do in their plans; and on their cleanup queues, with one unit more for each that does not rest
abbrev pub plans_left : ClusterView → ℕ
plans_left c = sum_by (λ b. plan_work b.plan b.history) c.agents

abbrev pub queue_work : AgentView → ℕ
queue_work b = cleanup_work b.plan b.history + (if rests b then 0 else 1)

abbrev pub queues_left : ClusterView → ℕ
queues_left c = sum_by queue_work c.agents

-- agent n is at its cleanup queue, or rests
abbrev pub Sweeps : ℕ → ClusterView → Type 0
Sweeps n c = (cleans_at n c ≡ true) ⊎ (rests_at n c ≡ true)

-- a step leaves less of the cleanup queue, where that is worked off, and of the plan else
abbrev pub IsLess : Bool → ℕ → ClusterView → ClusterView → Type 0
IsLess true n old new = (plan_left n new ≡ plan_left n old) × (cleanup_left n new < cleanup_left n old)
IsLess false n old new = plan_left n new < plan_left n old

-- an agent that moves has less to do, and is at its cleanup queue or rests where it was at that; one that does not move rests, or sleeps
abbrev pub Works : Progress → ℕ → ClusterView → ClusterView → Type 0
Works Moved n old new = IsLess (cleans_at n old) n old new × (cleans_at n old ≡ true → Sweeps n new)
Works Waiting n old new = (rests_at n old ≡ true) ⊎ (asleep new.ledger.history n ≡ true)
Works Ended n old new = rests_at n old ≡ true

-- agents were asked, and none moved
pub record Asked (old new : ClusterView) : Type 0 where
  pub agents : new.agents ≡ old.agents
  pub whole : new.failed ≡ false
  pub waits : (end : ClusterView) → RunsOut new end → RunsOut old end

-- those below i were asked, and wait in vain; where all did before, they have ended
pub record AskedUpTo (i : ℕ) (old new : ClusterView) : Type 0 where
  pub asked : Asked old new
  pub number : new.ledger.agents ≡ old.ledger.agents
  pub settled : all_stuck new.ledger.history i ≡ true
  pub again : all_stuck old.ledger.history old.ledger.agents ≡ true → (new ≡ old) × (all_ended new.ledger.history i ≡ true)

-- the mover took the first turn of its move
pub record FirstTurn (b : Begun) (old new : ClusterView) : Type 0 where
  pub mid : ClusterView
  pub asked : Asked old mid
  pub moves : mover mid ≡ Some b.agent
  pub turned : Turned Moved b.agent mid new
  pub cleans : b.cleans ≡ cleans_at b.agent mid
  pub less : IsLess b.cleans b.agent mid new
  pub awake : asleep new.ledger.history b.agent ≡ false
  pub swept : b.cleans ≡ true → Sweeps b.agent new

-- it did; or all that have not ended wait or sleep, and where they did before, all have ended
abbrev pub AskedEach : Option Begun → ClusterView → ClusterView → Type 0
AskedEach (Some b) old new = FirstTurn b old new
AskedEach None old new = Asked old new × (all_stuck new.ledger.history new.ledger.agents ≡ true) × (all_stuck old.ledger.history old.ledger.agents ≡ true → all_over new ≡ true)

-- it did; or all have ended
abbrev pub BeginsMove : Option Begun → ClusterView → ClusterView → Type 0
BeginsMove (Some b) old new = FirstTurn b old new
BeginsMove None old new = Asked old new × (all_over new ≡ true)

-- the rest of agent n's move from new on is the end of its rest from old on
abbrev pub GoesOn : ℕ → ClusterView → ClusterView → Type 0
GoesOn n old new = (end : ClusterView) → Rest n new end → Rest n old end

-- agent n worked its cleanup queue off, or began to sleep before
abbrev pub CleansUp : Bool → ℕ → ClusterView → ClusterView → Type 0
CleansUp true n old new = Rest n old new
CleansUp false n old new = GoesOn n old new × (cleans_at n new ≡ false) × (asleep new.ledger.history n ≡ false) × (Sweeps n old → rests_at n new ≡ true)

-- what is heard of who waits in vain: an agent that waits or sleeps on does from then on, and is not the lowest of agents that all do; of
-- those that move or begin to sleep, where all lower ones wait in vain, it is the mover
abbrev pub Hears : Progress → ℕ → ClusterView → ClusterView → Type 0
Hears Moved n old new = (all_stuck old.ledger.history n ≡ true → mover old ≡ Some n) × (asleep new.ledger.history n ≡ false)
Hears Waiting n old new =
    (new.agents ≡ old.agents) × (new.ledger.agents ≡ old.ledger.agents)
    × (all_stuck old.ledger.history n ≡ true → all_stuck new.ledger.history (n + 1) ≡ true)
    × (all_stuck old.ledger.history old.ledger.agents ≡ true → all_ended old.ledger.history n ≡ true → ⊥)
    × ((asleep new.ledger.history n ≡ asleep old.ledger.history n) ⊎ (BeginsToSleep n old new × (all_stuck old.ledger.history n ≡ true → mover old ≡ Some n)))
Hears Ended n old new = (new ≡ old) × (ended old.ledger.history n ≡ true)
