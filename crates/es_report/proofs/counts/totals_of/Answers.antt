use Rattle.std.proofs.Common.{reverse, sym, ap, ◌∙◌, take, arith}
use Rattle.es_report.specs.LedgerTotals.{told}
use Rattle.es_report.proofs.Ending.{few_told}
use Rattle.es_report.proofs.Lists.{reversed_more}
use Rattle.es_report.proofs.counts.totals_of.Goals as goal

pub with-totals-requires : goal.with-totals-requires
with-totals-requires c = few_told c.args.events.now c.loop-event.event-index c.loop-event.totals (omega (arith, c.loop-event-test.true, c.well_formed.0.1)) c.loop-event.invariant

pub loop-event-preserved : goal.loop-event-preserved
loop-event-preserved c =
    c.with-totals.ensures (reverse (take c.loop-event.event-index c.args.events.now)) c.loop-event.invariant
    ∙ ap told (sym (reversed_more c.args.events.now c.loop-event.event-index c.event-item.result c.loop-event-test.true c.event-item.is))
