use Rattle.std.proofs.Common.{take, reverse, subst, sym, arith}
use Rattle.es_report.proofs.Lists.{reversed_more}
use Rattle.es_report.specs.Looking.{Looks}
use Rattle.es_report.proofs.looking.look_at.Goals as goal

pub next-looked-requires : goal.next-looked-requires
next-looked-requires c = omega (arith, c.loop-event.invariant.few, c.loop-event-test.true, c.well_formed.0.1)

pub loop-event-preserved : goal.loop-event-preserved
loop-event-preserved c = record {
  looks = subst (λ h. Looks c.args.number h c.next-looked.result) (sym (reversed_more c.args.events.now c.loop-event.event-index c.event-item.result c.loop-event-test.true c.event-item.is))
      (c.next-looked.ensures.tells (reverse (take c.loop-event.event-index c.args.events.now)) c.loop-event.invariant.looks);
  few = omega (arith, c.loop-event.invariant.few, c.next-looked.ensures.most);
}
