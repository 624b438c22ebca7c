use Rattle.std.proofs.Common.{take, reverse, subst, sym}
use Rattle.es_report.proofs.Lists.{reversed_more}
use Rattle.es_report.specs.Holding.{Traced}
use Rattle.es_report.proofs.Holders.{next_traced}
use Rattle.es_report.proofs.holding.trace_of.Goals as goal

pub loop-place-preserved : goal.loop-place-preserved
loop-place-preserved c =
    subst (λ l. Traced c.args.serial c.args.block l c.with_moved-traced.result) (sym (reversed_more c.args.events.now c.loop-place.place c.index-events-place.result c.loop-place-test.true c.index-events-place.is))
    (rw c.with_moved-traced.ensures (rw c.with_made-made.ensures (next_traced c.args.serial c.args.block c.index-events-place.result (reverse (take c.loop-place.place c.args.events.now)) c.loop-place.traced c.loop-place.invariant)))
