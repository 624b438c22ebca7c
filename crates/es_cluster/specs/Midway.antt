-- Internal: what stands before a turn, and an agent in the middle of one.
use Rattle.std.specs.Prelude.{ℕ, pos, ◌≡◌, ◌≢◌, ◌<◌, Bool, true, false, if◌then◌else◌, List, [], ◌∷◌, ◌++◌, Option, Some, None}
use Rattle.std.specs.List.{Contains}
use Rattle.es_value.specs.declared.value.Value.TheVariants.{Number}
use Rattle.es_event.specs.declared.access.Access.{Access}
use Rattle.es_event.specs.declared.access.WaitResult.{WaitResult}
use Rattle.es_event.specs.declared.event.Answer.{Answer}
use Rattle.es_event.specs.declared.event.Answer.TheVariants.{Nothing, Gives}
use Rattle.es_event.specs.declared.ledger_event.Body.TheVariants.{Block}
use Rattle.es_event.specs.declared.row.Row.{Row}
use Rattle.es_event.specs.Ledger.{Ledger, ended as has_ended, holder_of, waits}
use Rattle.es_event.specs.Waiters.{asleep}
use Rattle.es_event.specs.LegalLedger.{LegalLedger}
use Rattle.es_ledger.specs.LedgerView.{LedgerView}
use Rattle.es_ledger.specs.declared.turn.Turn.{Turn}
use Rattle.es_ledger.specs.declared.turn.Turn.TheVariants.{Ready, Stay, Skip}
use Rattle.es_match.specs.Patience.{patient, has_drained, drained_last}
use Rattle.es_match.specs.Cluster.{DeedsMeet}
use Rattle.es_match.specs.Deeds.{Deed, Opens, Takes, part}
use Rattle.es_ticket.specs.Stakes.{StakeView}
use Rattle.es_record.specs.AgentView.{AgentView}
use Rattle.es_rules.specs.Needs.{Request, for_block, for_post, for_buffer_post, for_word, Need, asks_nobody, asks_marks, asks_copy, asks_late_marks, asks_ledger, asks_message, asks_closing, asks_nothing, gives_wait_result, need}
use Rattle.es_cluster.specs.Members.{Holds}
use Rattle.es_cluster.specs.Tied.{IsTied, came_to}
use Rattle.es_cluster.specs.Turned.{IsSeated}

-- the agent has its stake, it has not ended in the ledger while it asks for something, and the ledger's history is legal and says
-- that the agent holds the tickets of its stake
pub record IsHeld (b : AgentView) (s : StakeView) (l : LedgerView) : Type 0 where
  pub held : Holds b s
  pub known : b.number < l.agents
  pub going : need b ≢ asks_nothing → has_ended l.history b.number ≡ false
  pub legal : LegalLedger l.agents l.history
  pub holder : (r : Row) → Contains s.rows r → holder_of l.history r.serial ≡ Some (s.agent, r)

-- besides, it has its place, and its history, tickets and part go together
pub record IsReady (b : AgentView) (s : StakeView) (l : LedgerView) : Type 0 where
  pub held : Holds b s
  pub seated : IsSeated b l
  pub tied : IsTied b l.history
  pub legal : LegalLedger l.agents l.history
  pub holder : (r : Row) → Contains s.rows r → holder_of l.history r.serial ≡ Some (s.agent, r)

-- the agent has done what its history does not tell yet: the deeds ds
pub record Midway (b : AgentView) (l : Ledger) (ds : List Deed) : Type 0 where
  pub told : List Deed
  pub mine : DeedsMeet b.history told (came_to b)
  pub split : part l b.number ≡ told ++ ds
  pub awake : asleep l b.number ≡ false
  pub waits_end : patient l ≡ true
  pub drains_end : drained_last l ≡ true

-- the deed by which a ticket with this row came to the agent that asks for it
abbrev pub Fetches : Need → Row → Deed → Type 0
Fetches (asks_ledger (for_block n)) r d = (r.words ≡ n) × (d ≡ Opens r.block r.words r.serial)
Fetches (asks_message s) r d = d ≡ Takes s (Some (Block r.block r.serial)) r.words
Fetches n r d = ⊥

-- a ticket with this row came to the agent, which waits no more
pub record HasFetched (b : AgentView) (r : Row) (l : Ledger) : Type 0 where
  pub deed : Deed
  pub midway : Midway b l (deed ∷ [])
  pub fetches : Fetches (need b) r deed
  pub free : waits l b.number ≡ None
  pub undrained : has_drained l ≡ false

-- the answer of the command that did this to a word, which was this before
abbrev pub answer_to : Access → ℕ → Answer
answer_to m old = if m.gives_word then Gives (Number (pos old)) else Nothing

-- how a wait ended of which the ledger says this, where it has ended: the word was another one, or the agent was taken, or its time-out
-- has passed
abbrev pub wait_result : Option Turn → Option WaitResult
wait_result None = Some WaitResult.NotEqual
wait_result (Some Ready) = Some WaitResult.Woken
wait_result (Some Stay) = None
wait_result (Some Skip) = Some WaitResult.TimedOut

-- it is asked for a sleep
abbrev pub is_for_sleep : Request → Bool
is_for_sleep (for_block n) = false
is_for_sleep (for_post a v) = false
is_for_sleep (for_buffer_post a o) = false
is_for_sleep (for_word o i t) = gives_wait_result t

-- the agent asks to sleep
abbrev pub asks_to_sleep : Need → Bool
asks_to_sleep asks_nobody = false
asks_to_sleep asks_marks = false
asks_to_sleep asks_copy = false
asks_to_sleep asks_late_marks = false
asks_to_sleep (asks_ledger r) = is_for_sleep r
asks_to_sleep (asks_message s) = false
asks_to_sleep asks_closing = false
asks_to_sleep asks_nothing = false
