-- To believe: what an audit of agents and their ledger says.
use Rattle.std.specs.Prelude.{ℕ, ◌≡◌, ◌+◌, ◌<◌, List, length, slice_index_or}
use Rattle.std.specs.List.{sum_by}
use Rattle.es_event.specs.Ledger.{Ledger, table}
use Rattle.es_event.specs.Rows.{count_of, in_port}
use Rattle.es_ledger.specs.Audits.{IsAudit}
use Rattle.es_ledger.specs.LedgerView.{LedgerView}
use Rattle.es_ledger.specs.Laws.{sum_below}
use Rattle.es_ledger.specs.declared.audit.Audit.{Audit}
use Rattle.es_record.specs.AgentView.{AgentView}
use Rattle.es_agent.specs.Tickets.{tickets}
use Rattle.es_cluster.specs.Members.{rows_of}

-- how many tickets all agents have
abbrev pub in_all_racks : List AgentView → ℕ
in_all_racks bs = sum_by (λ b. length (tickets b)) bs

-- how many of block k they have
abbrev pub racked : List AgentView → ℕ → ℕ
racked bs k = sum_by (λ b. count_of (rows_of b) k) bs

-- how many of block k lie in the ports of n agents
abbrev pub ported : ℕ → Ledger → ℕ → ℕ
ported n l k = sum_below n (λ s. sum_below n (λ r. count_of (in_port s r (table l)) k))

-- the ledger's audit; and each block has the tickets that these agents and the ports have of it
pub record Audits (bs : List AgentView) (l : LedgerView) (a : Audit) : Type 0 where
  pub ledger : IsAudit l.agents l.history a
  pub in_agents : a.in_agents ≡ in_all_racks bs
  pub counts : (k : ℕ) → k < a.blocks → slice_index_or a.counts k 0 ≡ racked bs (k + 1) + ported l.agents l.history (k + 1)
