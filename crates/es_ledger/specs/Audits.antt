-- To believe: what an audit says of a ledger of n agents.
use Rattle.std.specs.Prelude.{ℕ, ◌≡◌, ◌+◌, ◌<◌, length, slice_index_or, sum}
use Rattle.es_event.specs.Rows.{held, in_port}
use Rattle.es_event.specs.Ledger.{Ledger, opened, table, count}
use Rattle.es_event.specs.Totals.{released}
use Rattle.es_ledger.specs.declared.audit.Audit.{Audit}
use Rattle.es_ledger.specs.Laws.{sum_below}

-- how many tickets the agents below n hold
abbrev pub held_below : ℕ → Ledger → ℕ
held_below n l = sum_below n (λ a. length (held a (table l)))

-- how many lie in the ports of n agents
abbrev pub in_all_ports : ℕ → Ledger → ℕ
in_all_ports n l = sum_below n (λ s. sum_below n (λ r. length (in_port s r (table l))))

-- the blocks that were made, how many of them are released, how many tickets of each there are, and of all these how many agents
-- hold and how many lie in ports
pub record IsAudit (n : ℕ) (l : Ledger) (a : Audit) : Type 0 where
  pub blocks : a.blocks ≡ opened l
  pub released : a.released ≡ released l
  pub size : length a.counts ≡ opened l
  pub counts : (k : ℕ) → k < opened l → slice_index_or a.counts k 0 ≡ count l (k + 1)
  pub in_agents : a.in_agents ≡ held_below n l
  pub in_ports : a.in_ports ≡ in_all_ports n l
  pub together : a.in_agents + a.in_ports ≡ sum a.counts
