use Rattle.std.proofs.Common.{◌≡◌, take, reverse}
use Rattle.es_report.specs.LedgerTotals.{told}
use Rattle.es_report.proofs.counts.totals_of.Given as goal

abbrev pub invariant-loop-event : goal.invariant-loop-event
invariant-loop-event l = l.totals ≡ told (reverse (take l.event-index l.events))
