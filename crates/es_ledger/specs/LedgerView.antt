-- To believe: what contracts see of a ledger.
use Rattle.std.specs.Prelude.{ℕ}
use Rattle.es_event.specs.Ledger.{Ledger}

-- how many agents there are, and the history, the newest event first
pub record LedgerView : Type 0 where
  pub agents : ℕ
  pub history : Ledger
