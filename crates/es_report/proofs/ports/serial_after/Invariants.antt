use Rattle.std.proofs.Common.{◌≤◌, take, reverse}
use Rattle.es_report.specs.Ports.{Finds}
use Rattle.es_report.proofs.ports.serial_after.Given as goal

abbrev pub invariant-loop-event : goal.invariant-loop-event
invariant-loop-event l = record {
  finds : Finds l.sender l.receiver l.before (reverse (take l.event-index l.events)) l.search;
  few : l.search.seen ≤ l.event-index;
}
