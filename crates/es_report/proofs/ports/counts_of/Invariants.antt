use Rattle.std.proofs.Common.{◌≤◌, take, reverse}
use Rattle.es_report.specs.Ports.{AreCounts}
use Rattle.es_report.proofs.ports.counts_of.Given as goal

abbrev pub invariant-loop-event : goal.invariant-loop-event
invariant-loop-event l = record {
  counts : AreCounts l.sender l.receiver (reverse (take l.event-index l.events)) l.counts;
  few : l.counts.posted ≤ l.event-index;
}
