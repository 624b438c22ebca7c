-- To believe: when histories of agents and a history of the ledger are those of one cluster.
use Rattle.std.specs.Prelude.{ℕ, ◌≡◌, ◌<◌, length, Bool, true, false, List, [], ◌∷◌, ◌++◌, Some, reverse, slice_index_or, if◌then◌else◌}
use Rattle.std.specs.Option.{option_map_or}
use Rattle.es_event.specs.declared.plan.AgentPlan.{AgentPlan}
use Rattle.es_event.specs.History.{History}
use Rattle.es_event.specs.Jobs.{job, on_of}
use Rattle.es_event.specs.Ledger.{Ledger}
use Rattle.es_event.specs.Sharing.{Buffers}
use Rattle.es_match.specs.Deeds.{Deed, part}
use Rattle.es_match.specs.Patience.{patient, drained_last}
use Rattle.es_match.specs.Asks.{Asking, to_refuse, between_jobs, asks}
use Rattle.es_match.specs.Meets.{Came, came_after, nothing_came}

-- the deeds are, in order and with nothing besides, what the history asks: those before are what the earlier events ask, and
-- those now are what the newest asks; c is what has come to the agent by them
abbrev pub DeedsMeet : History → List Deed → Came → Type 0
DeedsMeet [] ds c = (ds ≡ []) × (c ≡ nothing_came)
DeedsMeet (e ∷ earlier) ds c =
    (before : List Deed) × (now : List Deed) × (d : Came) × (ds ≡ before ++ now) × DeedsMeet earlier before d
    × (came_after d (asks (between_jobs earlier) e) now ≡ Some c)

-- agent a's history; an agent that is not there has the empty one
abbrev pub history_of : List History → ℕ → History
history_of hs a = slice_index_or hs a []

-- these are the histories of the agents of one cluster, by rising number, and of its ledger
pub record IsCluster (hs : List History) (l : Ledger) : Type 0 where
  pub parts : (a : ℕ) → (c : Came) × DeedsMeet (history_of hs a) (part l a) c
  pub waits : patient l ≡ true
  pub drains : drained_last l ≡ true

-- this is what has come to each agent of the cluster of these histories
pub record HaveCome (hs : List History) (l : Ledger) (cs : List Came) : Type 0 where
  pub cluster : IsCluster hs l
  pub size : length cs ≡ length hs
  pub each : (a : ℕ) → a < length hs → DeedsMeet (history_of hs a) (part l a) (slice_index_or cs a nothing_came)

-- What the agents say of themselves

-- an agent's plan, what the ticket of each of its buffer objects named, the newest first, and its history
pub record Account : Type 0 where
  pub plan : AgentPlan
  pub over : Buffers
  pub history : History

abbrev pub nobody : Account
nobody = record { plan = record { name = []; jobs = []; callbacks = [] }; over = []; history = [] }

-- the account of agent a
abbrev pub account_of : List Account → ℕ → Account
account_of all a = slice_index_or all a nobody

-- the sender that the plan's nth job waits for
abbrev pub awaited : AgentPlan → ℕ → List ℕ
awaited plan n = option_map_or (λ on. on.0 ∷ []) (on_of plan.jobs n) []

-- a receipt finds no room
abbrev pub is_refusal_asked : Asking → Bool
is_refusal_asked to_refuse = true
is_refusal_asked _ = false

-- the senders of the jobs whose receipts found no room, the oldest first
abbrev pub refused_senders : AgentPlan → History → List ℕ
refused_senders plan [] = []
refused_senders plan (e ∷ earlier) =
    refused_senders plan earlier ++ (if is_refusal_asked (asks (between_jobs earlier) e) then awaited plan (job earlier) else [])

-- what came is what the agent says: each buffer object is over what its own ticket names, and each message that found no room was one
-- of the sender that its job names
pub record IsSaid (a : Account) (c : Came) : Type 0 where
  pub buffers : c.ever ≡ reverse a.over
  pub senders : c.refused ≡ refused_senders a.plan a.history

-- besides, what came to each agent is what it says
pub record IsClusterOf (all : List Account) (l : Ledger) : Type 0 where
  pub parts : (a : ℕ) → (c : Came) × DeedsMeet (account_of all a).history (part l a) c × IsSaid (account_of all a) c
  pub waits : patient l ≡ true
  pub drains : drained_last l ≡ true
