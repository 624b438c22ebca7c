use Rattle.std.proofs.Common.{get_or, refl}
use Rattle.es_trace_json.specs.Ledger.{released_line}
use Rattle.es_trace_json.proofs.Each.{one_more}
use Rattle.es_trace_json.proofs.ledger.write_released.Goals as goal

pub loop-block-preserved : goal.loop-block-preserved
loop-block-preserved g c =
    one_more released_line c.args.blocks.now c.loop-block.block-index 0 (get_or c.args.blocks.now c.loop-block.block-index 0)
    (g.W.Write.contents c.args.writer.now) (g.W.Write.contents c.loop-block.writer) (g.W.Write.contents c.write_block.new.writer)
    c.loop-block-test.true refl c.loop-block.invariant c.in_ok-write_block.ensures
