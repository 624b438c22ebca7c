-- Internal: an agent that goes on, and what a turn of it comes to.
use Rattle.std.specs.Prelude.{ℕ, ◌≡◌, ◌≤◌, ⊤, true, [], ◌∷◌, Some, reverse, slice_get}
use Rattle.es_event.specs.declared.row.Row.{Row}
use Rattle.es_event.specs.Identities.{made}
use Rattle.es_event.specs.Ledger.{Ledger, holder_of}
use Rattle.es_event.specs.LegalLedger.{LegalLedger}
use Rattle.es_event.specs.Runs.{IsRunOver}
use Rattle.es_match.specs.Meets.{Tickets}
use Rattle.es_ticket.specs.Stakes.{is_rising_from}
use Rattle.es_ledger.specs.LedgerView.{LedgerView}
use Rattle.es_record.specs.AgentView.{AgentView}
use Rattle.es_record.specs.Newest.{newest}
use Rattle.es_rules.specs.Needs.{need}
use Rattle.es_agent.specs.Tickets.{tickets}
use Rattle.es_cluster.specs.Tied.{GrowsBy, IsTied}
use Rattle.es_cluster.specs.Turned.{IsSeated, IsTiedAfter, NamesOthers, WaitsRightly}
use Rattle.es_cluster.specs.declared.member.Progress.{Progress}
use Rattle.es_cluster.specs.State.{ClusterView}
use Rattle.es_cluster.specs.Turns.{Takes}

-- each of these tickets is agent n's
abbrev pub AllHeld : ℕ → Ledger → Tickets → Type 0
AllHeld n l [] = ⊤
AllHeld n l (t ∷ ts) = (holder_of l t.1.serial ≡ Some (n, t.1)) × AllHeld n l ts

-- none has this serial
abbrev pub OtherThan : ℕ → Tickets → Type 0
OtherThan k [] = ⊤
OtherThan k (t ∷ ts) = (t.1.serial ≡ k → ⊥) × OtherThan k ts

-- no two have one serial
abbrev pub Apart : Tickets → Type 0
Apart [] = ⊤
Apart (t ∷ ts) = OtherThan t.1.serial ts × Apart ts

-- agent n holds nothing else
abbrev pub Only : ℕ → Ledger → Tickets → Type 0
Only n l ts = (k : ℕ) (r : Row) → holder_of l k ≡ Some (n, r) → OtherThan k ts → ⊥

-- what agent n holds are these tickets, and no two of them have one serial
pub record Racked (n : ℕ) (l : Ledger) (ts : Tickets) : Type 0 where
  pub held : AllHeld n l ts
  pub apart : Apart ts
  pub only : Only n l ts

-- its history is a run of its plan so far, its buffer objects rise, and what it holds are its tickets
pub record Going (b : AgentView) (l : Ledger) : Type 0 where
  pub run : IsRunOver b.over b.plan b.history
  pub rising : is_rising_from 0 (reverse b.over) ≡ true
  pub newest_is : newest b.over ≤ made b.history
  pub rack : Racked b.number l (tickets b)

-- so does each agent
abbrev pub AllGoing : ClusterView → Type 0
AllGoing c = (n : ℕ) (b : AgentView) → slice_get c.agents n ≡ Some b → Going b c.ledger.history

-- it has its place and its part in the ledger, and names others alone
pub record Standing (b : AgentView) (l : LedgerView) : Type 0 where
  pub seated : IsSeated b l
  pub tied : IsTied b l.history
  pub legal : LegalLedger l.agents l.history
  pub others : NamesOthers (need b) b.number l.agents
  pub going : Going b l.history

-- a turn of it
pub record Turn (p : Progress) (b : AgentView) (l : LedgerView) : Type 0 where
  pub after : AgentView
  pub ledger : LedgerView
  pub takes : Takes p b after
  pub told : WaitsRightly p b l ledger
  pub grows : GrowsBy b.number l.history ledger.history
  pub number : ledger.agents ≡ l.agents
  pub tied : IsTiedAfter p after ledger.history
  pub seated : IsSeated after ledger
  pub legal : LegalLedger ledger.agents ledger.history
