use Rattle.std.proofs.Common.{◌≡◌, take, reverse}
use Rattle.std.specs.List.{list_any}
use Rattle.es_event.specs.Ledger.{table}
use Rattle.es_report.specs.Holding.{makes_left}
use Rattle.es_report.proofs.holding.is_left.Given as goal

abbrev pub invariant-loop-event : goal.invariant-loop-event
invariant-loop-event l = l.left ≡ list_any (makes_left (table (reverse l.events)) l.block) (reverse (take l.event-index l.events))
