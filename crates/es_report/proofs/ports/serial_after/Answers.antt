use Rattle.std.proofs.Common.{take, reverse, subst, sym, arith}
use Rattle.es_report.proofs.Lists.{reversed_more}
use Rattle.es_report.specs.Ports.{Finds}
use Rattle.es_report.proofs.ports.serial_after.Goals as goal

pub next_search-search-requires : goal.next_search-search-requires
next_search-search-requires c = omega (arith, c.loop-event.invariant.few, c.loop-event-test.true, c.well_formed.0.1)

pub loop-event-preserved : goal.loop-event-preserved
loop-event-preserved c = record {
  finds = subst (λ l. Finds c.args.sender c.args.receiver c.args.before l c.next_search-search.result) (sym (reversed_more c.args.events.now c.loop-event.event-index c.event-item.result c.loop-event-test.true c.event-item.is))
      (c.next_search-search.ensures.finds (reverse (take c.loop-event.event-index c.args.events.now)) c.loop-event.invariant.finds);
  few = omega (arith, c.loop-event.invariant.few, c.next_search-search.ensures.most);
}
