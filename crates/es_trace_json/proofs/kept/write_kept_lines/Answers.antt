use Rattle.es_trace_json.specs.Kept.{kept_line}
use Rattle.es_trace_json.proofs.Each.{one_more}
use Rattle.es_trace_json.proofs.kept.write_kept_lines.Goals as goal

pub loop-value-preserved : goal.loop-value-preserved
loop-value-preserved g c =
    one_more (kept_line c.args.name.now) c.args.kept.now c.loop-value.value-index c.value-item.result c.value-item.result
    (g.W.Write.contents c.args.writer.now) (g.W.Write.contents c.loop-value.writer) (g.W.Write.contents c.write_line.new.writer)
    c.loop-value-test.true c.value-item.is c.loop-value.invariant c.in_ok-write_line.ensures
