use Rattle.std.proofs.Common.{◌∙◌, ap, arith}
use Rattle.es_trace.specs.Released.{with_block}
use Rattle.es_trace.proofs.Releasing.{one_before}
use Rattle.es_trace.proofs.released.TicketBlocks.spent_blocks.Goals as goal

pub loop-place-preserved : goal.loop-place-preserved
loop-place-preserved c = λ h knows.
    c.in_ok-add.ensures
    ∙ ap (λ o. with_block o c.loop-place.blocks.items) (c.spent_block-block.ensures h knows)
    ∙ one_before h c.args.events.now _ c.loop-place.place c.index-events-place.result c.loop-place.blocks.items (omega arith) (omega arith) c.index-events-place.is (c.loop-place.invariant h knows)
