use Rattle.std.proofs.Common.{take, reverse, subst, sym, arith}
use Rattle.es_report.proofs.Lists.{reversed_more}
use Rattle.es_report.specs.Ports.{AreCounts}
use Rattle.es_report.proofs.ports.counts_of.Goals as goal

pub next_counts-counts-requires : goal.next_counts-counts-requires
next_counts-counts-requires c = record { few = omega (arith, c.loop-event.invariant.few, c.loop-event-test.true, c.well_formed.0.1); gone = c.loop-event.invariant.counts.few }

pub loop-event-preserved : goal.loop-event-preserved
loop-event-preserved c = record {
  counts = subst (λ l. AreCounts c.args.sender c.args.receiver l c.next_counts-counts.result) (sym (reversed_more c.args.events.now c.loop-event.event-index c.event-item.result c.loop-event-test.true c.event-item.is))
      (c.next_counts-counts.ensures.counts (reverse (take c.loop-event.event-index c.args.events.now)) c.loop-event.invariant.counts);
  few = omega (arith, c.loop-event.invariant.few, c.next_counts-counts.ensures.most);
}
