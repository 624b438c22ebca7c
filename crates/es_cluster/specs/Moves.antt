-- To believe: which agent moves next, what a move is, and what runs of moves lead to. (ECMA-262, Agents and Agent Clusters, leaves the order
-- of agents open; this one is the host's.)
use Rattle.std.specs.Prelude.{ℕ, ◌≡◌, ◌⊎◌, ◌&&◌, ◌||◌, Bool, true, false, not, [], ◌∷◌, Option, Some, None, slice_get}
use Rattle.std.specs.List.{list_all, position_from}
use Rattle.std.specs.Option.{option_map_or}
use Rattle.es_event.specs.declared.event.Event.TheVariants.{JobBegun, CleanupBegun, Received, Did, Refused, Emptied, Taken, JobEnded, Skipped, Closed}
use Rattle.es_event.specs.History.{History}
use Rattle.es_event.specs.Jobs.{callbacks_collect_nothing}
use Rattle.es_event.specs.Ledger.{Ledger, ended}
use Rattle.es_event.specs.LegalLedger.{all_ended, has_message}
use Rattle.es_event.specs.Order.{phase, is_cleaning_up}
use Rattle.es_event.specs.Waiters.{asleep, is_listed}
use Rattle.es_agent.specs.Tickets.{is_ended}
use Rattle.es_ledger.specs.Draining.{after_drain}
use Rattle.es_cluster.specs.declared.member.Progress.TheVariants.{Moved, Waiting}
use Rattle.es_record.specs.AgentView.{AgentView}
use Rattle.es_rules.specs.Needs.{Need, asks_nobody, asks_marks, asks_copy, asks_late_marks, asks_ledger, asks_message, asks_closing, asks_nothing, need}
use Rattle.es_cluster.specs.State.{ClusterView, plans}
use Rattle.es_cluster.specs.Turns.{Turned}

-- Who moves

-- agent n, which asks for this, goes on whatever the others do: it is in no WaiterList; and it waits for no message, or for one that is
-- there, or skips, as its sender has ended
abbrev pub goes_on_by : Ledger → ℕ → Need → Bool
goes_on_by l n asks_nobody = true
goes_on_by l n asks_marks = true
goes_on_by l n asks_copy = true
goes_on_by l n asks_late_marks = true
goes_on_by l n (asks_ledger r) = not (is_listed l n)
goes_on_by l n (asks_message s) = has_message l s n || ended l s
goes_on_by l n asks_closing = true
goes_on_by l n asks_nothing = false

abbrev pub goes_on : Ledger → AgentView → Bool
goes_on l b = goes_on_by l b.number (need b)

abbrev pub is_over : AgentView → Bool
is_over b = is_ended (phase b.history)

abbrev pub or_else : Option ℕ → Option ℕ → Option ℕ
or_else (Some n) o = Some n
or_else None o = o

-- the lowest-numbered agent that can move: the lowest that goes on; and where none does, all that have not ended wait or sleep in vain,
-- and the lowest of these can, as it skips its job, or its time-out passes
abbrev pub mover : ClusterView → Option ℕ
mover c = or_else (position_from (goes_on c.ledger.history) 0 c.agents) (position_from (λ b. not (is_over b)) 0 c.agents)

-- Moves

-- the newest event ended a job, or skipped one, or closed the agent, or there is none yet
abbrev pub is_between : History → Bool
is_between [] = true
is_between (JobBegun j ∷ earlier) = false
is_between (CleanupBegun q ∷ earlier) = false
is_between (Received t v ∷ earlier) = false
is_between (Did (c, vs, r) ∷ earlier) = false
is_between (Refused code ∷ earlier) = false
is_between (Emptied ids ∷ earlier) = false
is_between (Taken n held ∷ earlier) = false
is_between (JobEnded ∷ earlier) = true
is_between (Skipped j t ∷ earlier) = true
is_between (Closed ∷ earlier) = true

-- no job of it is under way, and no cleanup job is left to run
abbrev pub rests : AgentView → Bool
rests b = is_between b.history && not (is_cleaning_up b.history)

abbrev pub rests_at : ℕ → ClusterView → Bool
rests_at n c = option_map_or rests (slice_get c.agents n) true

-- agent n begins to sleep at a word, and has no event more
abbrev pub BeginsToSleep : ℕ → ClusterView → ClusterView → Type 0
BeginsToSleep n old new = Turned Waiting n old new × (asleep old.ledger.history n ≡ false) × (asleep new.ledger.history n ≡ true)

-- agent n goes on until it rests or sleeps
pub data Rest (n : ℕ) : ClusterView → ClusterView → Type 0 where
  rested : {c : ClusterView} → rests_at n c ≡ true → Rest n c c
  slept : {c end : ClusterView} → rests_at n c ≡ false → BeginsToSleep n c end → Rest n c end
  turned : {c mid end : ClusterView} → rests_at n c ≡ false → Turned Moved n c mid → Rest n mid end → Rest n c end

-- a move of agent n: one whole job with its cleanup jobs, or what is left of them, up to their end or until it sleeps; or one skip, or
-- the closing
abbrev pub IsMove : ℕ → ClusterView → ClusterView → Type 0
IsMove n old new = ((mid : ClusterView) × Turned Moved n old mid × Rest n mid new) ⊎ BeginsToSleep n old new

-- every agent has ended
abbrev pub all_over : ClusterView → Bool
all_over c = all_ended c.ledger.history c.ledger.agents

-- moves, each of the lowest-numbered agent that can move, until all have ended; an agent that waits may be asked in between, so that its
-- wait is recorded, and so may one that sleeps
pub data RunsOut : ClusterView → ClusterView → Type 0 where
  over : {c : ClusterView} → all_over c ≡ true → RunsOut c c
  waits : (n : ℕ) {c mid end : ClusterView} → Turned Waiting n c mid → asleep mid.ledger.history n ≡ asleep c.ledger.history n → RunsOut mid end → RunsOut c end
  moves : (n : ℕ) {c mid end : ClusterView} → mover c ≡ Some n → IsMove n c mid → RunsOut mid end → RunsOut c end

-- the messages that nobody took are taken out
abbrev pub with_drained : ClusterView → ClusterView
with_drained c = record { agents = c.agents; ledger = record { agents = c.ledger.agents; history = after_drain c.ledger.history c.ledger.agents }; failed = c.failed }

-- the moves that there are, and then the messages that nobody took are taken out
abbrev pub RunsToEnd : ClusterView → ClusterView → Type 0
RunsToEnd old new = (end : ClusterView) × RunsOut old end × (new ≡ with_drained end)

-- no callback of any agent collects, so that each agent's cleanup jobs come to their end
abbrev pub cleans_quietly : ClusterView → Bool
cleans_quietly c = list_all callbacks_collect_nothing (plans c.agents)
