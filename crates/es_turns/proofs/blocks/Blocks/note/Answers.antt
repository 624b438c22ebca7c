use Rattle.std.proofs.Common.{arith, subst, sym}
use Rattle.es_turns.specs.Known.{Says}
use Rattle.es_turns.proofs.Growing.{one_more}
use Rattle.es_turns.proofs.blocks.Blocks.note.Goals as goal

pub loop-event-init : goal.loop-event-init
loop-event-init c = record { few = omega arith; says = λ h says. says }

pub loop-event-preserved : goal.loop-event-preserved
loop-event-preserved c =
    let before = c.loop-event.invariant.few in
    let more = c.in_ok-note_one.ensures.few in
    record {
      few = omega (arith, before, more);
      says = λ h says. subst (λ l. Says l c.note_one.new.self) (sym (one_more c.args.events.now h c.loop-event.event-index c.event-item.result c.loop-event-test.true c.event-item.is)) (c.in_ok-note_one.ensures.says _ (c.loop-event.invariant.says h says));
    }
