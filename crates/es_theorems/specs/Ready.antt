-- Internal: what an agent may do at once, whatever others do before it.
use Rattle.std.specs.Prelude.{ℕ, ◌≡◌, ◌<◌, true, false, Some, None}
use Rattle.es_event.specs.declared.ledger_event.LedgerEvent.{LedgerEvent}
use Rattle.es_event.specs.declared.ledger_event.LedgerEvent.TheVariants.{Spent, Acted}
use Rattle.es_event.specs.declared.ledger_event.Act.TheVariants.{Passed, Ended}
use Rattle.es_event.specs.declared.row.Row.{Row}
use Rattle.es_event.specs.Ledger.{Ledger, ended, holder_of, waits}
use Rattle.es_event.specs.Waiters.{asleep}
use Rattle.es_event.specs.LegalLedger.{owed, skips}
use Rattle.es_match.specs.Patience.{has_drained}

-- of k agents, a has not ended, and nothing was drained
pub record Lives (k : ℕ) (l : Ledger) (a : ℕ) : Type 0 where
  pub known : a < k
  pub going : ended l a ≡ false
  pub paid : owed l ≡ None
  pub undrained : has_drained l ≡ false

-- and it is awake
pub record Goes (k : ℕ) (l : Ledger) (a : ℕ) : Type 0 where
  pub lives : Lives k l a
  pub awake : asleep l a ≡ false

-- agent a may spend a ticket of its own, or end, or skip its job
abbrev pub Ready : ℕ → Ledger → ℕ → LedgerEvent → Type 0
Ready k l a (Spent s) = ((r : Row) × (holder_of l s ≡ Some (a, r))) × (waits l a ≡ None)
Ready k l a (Acted b (Passed s)) = (b ≡ a) × (waits l a ≡ Some s) × (skips l k a s ≡ true)
Ready k l a (Acted b Ended) = (b ≡ a) × (waits l a ≡ None)
Ready k l a _ = ⊥
