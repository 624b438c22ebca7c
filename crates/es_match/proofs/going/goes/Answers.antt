use Rattle.std.proofs.Common.{◌∙◌, refl}
use Rattle.es_match.proofs.Passing.{passes_by}
use Rattle.es_match.proofs.going.goes.Goals as goal

pub loop-event-preserved-then-asks_nothing : goal.loop-event-preserved-then-asks_nothing
loop-event-preserved-then-asks_nothing c =
    rw c.ends_job-between.ensures
    (c.loop-event.invariant
    ∙ passes_by c.args.history.now c.loop-event.event-index c.loop-event.between c.loop-event.came c.event-item.result c.loop-event.rest c.loop-event-test.true c.event-item.is
    (c.if-asks_nothing.ensures refl c.loop-event.between))
