use Rattle.std.proofs.Common.{◌≤◌, take, reverse}
use Rattle.es_report.specs.Looking.{Looks}
use Rattle.es_report.proofs.looking.look_at.Given as goal

abbrev pub invariant-loop-event : goal.invariant-loop-event
invariant-loop-event l = record {
  looks : Looks l.number (reverse (take l.event-index l.events)) l.looked;
  few : l.looked.made ≤ l.event-index;
}
