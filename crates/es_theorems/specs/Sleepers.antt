-- To believe: what is said of an agent that sleeps, in every history of a ledger whose agents are patient: in threads and by turns, at any moment.
use Rattle.std.specs.Prelude.{ℕ, ◌≡◌, true, false, Some}
use Rattle.es_event.specs.Ledger.{Ledger, is_released}
use Rattle.es_event.specs.LegalLedger.{LegalSoFar}
use Rattle.es_event.specs.Waiters.{block_by}
use Rattle.es_match.specs.declared.deed.Sleep.{Sleep}
use Rattle.es_match.specs.Deeds.{sleep_of}
use Rattle.es_match.specs.Patience.{patient}

-- The block at whose word an agent sleeps is not released, though all others gave up theirs: who sleeps gives up no ticket.
abbrev pub ASleepersBlockIsNotReleased : Type 0
ASleepersBlockIsNotReleased = (n : ℕ) (l : Ledger) (a : ℕ) (s : Sleep) → LegalSoFar n l → patient l ≡ true → sleep_of l a ≡ Some s → is_released l (block_by l s.serial) ≡ false
