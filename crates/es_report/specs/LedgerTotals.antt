-- Internal: how many events of each kind a ledger's history has.
use Rattle.std.specs.Prelude.{ℕ, ◌<◌}
use Rattle.es_event.specs.Ledger.{Ledger, opened}
use Rattle.es_event.specs.Totals.{posted, taken, drained}
use Rattle.es_report.specs.declared.totals.Totals.{Totals}

abbrev pub told : Ledger → Totals
told l = record { opened = opened l; posted = posted l; taken = taken l; drained = drained l }

-- each total is below this number
pub record IsBelow (n : ℕ) (t : Totals) : Type 0 where
  pub of_opened : t.opened < n
  pub of_posted : t.posted < n
  pub of_taken : t.taken < n
  pub of_drained : t.drained < n
