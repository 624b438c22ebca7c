-- To believe: what comes of a cluster whose agents have all ended.
use Rattle.std.specs.Prelude.{ℕ, zero, suc, ◌≡◌, List, [], ◌∷◌, Some, map, reverse, slice_get, true, if◌then◌else◌}
use Rattle.std.specs.List.{AllByRecursion}
use Rattle.es_event.specs.declared.event.Event.{Event}
use Rattle.es_event.specs.declared.outcome.Outcome.{Outcome}
use Rattle.es_event.specs.declared.ledger_event.LedgerEvent.TheVariants.{Acted}
use Rattle.es_event.specs.declared.ledger_event.Act.TheVariants.{Ended}
use Rattle.es_event.specs.Ledger.{Ledger, count, ended as has_ended, port_of, table}
use Rattle.es_event.specs.LegalLedger.{LegalLedger}
use Rattle.es_event.specs.Rows.{held}
use Rattle.es_event.specs.Runs.{IsWholeRunOver}
use Rattle.es_ledger.specs.Draining.{after_drain}
use Rattle.es_match.specs.Cluster.{Account, IsClusterOf}
use Rattle.es_record.specs.AgentView.{AgentView}
use Rattle.es_cluster.specs.Moves.{is_over}
use Rattle.es_cluster.specs.State.{ClusterView, accounts, names_of}

-- agent n ends where it has not ended; so does each of the first n agents, by rising number
abbrev pub with_end : ℕ → Ledger → Ledger
with_end n l = if has_ended l n then l else Acted n Ended ∷ l

abbrev pub with_ends : ℕ → Ledger → Ledger
with_ends zero l = l
with_ends (suc n) l = with_end n (with_ends n l)

abbrev pub AreEnded : List AgentView → Type 0
AreEnded bs = (n : ℕ) (b : AgentView) → slice_get bs n ≡ Some b → is_over b ≡ true

-- the agent's history is a whole run of its plan, over what the tickets of its buffer objects named
abbrev pub IsWhole : Account → Type 0
IsWhole a = IsWholeRunOver a.over a.plan a.history

-- these are their histories, the oldest event first, and each is a whole run of the agent's plan
pub record AreHistories (bs : List AgentView) (hs : List (List Event)) : Type 0 where
  pub are : map (λ h. reverse h) hs ≡ map (λ b. b.history) bs
  pub runs : AllByRecursion IsWhole (accounts bs)

-- none of them holds a ticket
abbrev pub HaveNoTicket : List AgentView → Ledger → Type 0
HaveNoTicket bs l = (n : ℕ) (b : AgentView) → slice_get bs n ≡ Some b → held b.number (table l) ≡ []

-- the names of the plan, the histories of its agents, each a whole run, and the ledger's, in which the messages that nobody took were
-- taken out: with these agents, what their buffers are over and their plans, they are the histories of one cluster, the ledger's is
-- legal, and no ticket of any block and no message is left
pub record EndsIn (c : ClusterView) (o : Outcome) : Type 0 where
  pub names : o.names ≡ names_of c.agents
  pub agents : AreHistories c.agents o.histories
  pub ledger : reverse o.ledger ≡ after_drain c.ledger.history c.ledger.agents
  pub legal : LegalLedger c.ledger.agents (reverse o.ledger)
  pub cluster : IsClusterOf (accounts c.agents) (reverse o.ledger)
  pub tickets : (b : ℕ) → count (reverse o.ledger) b ≡ 0
  pub messages : (s r : ℕ) → port_of (reverse o.ledger) s r ≡ []
