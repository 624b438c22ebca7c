use Rattle.es_report.proofs.Written.{place_written}
use Rattle.es_report.proofs.beside.write_texts.Goals as goal

pub loop-i-preserved : goal.loop-i-preserved
loop-i-preserved g c = λ last rest. c.loop-i.invariant last
    (place_written (g.W.Write.contents c.loop-i.writer) (g.W.Write.contents c.write_text.new.writer) last c.args.names.now c.args.histories.now c.loop-i.i c.loop-i-test.true c.requires.size.0
    c.in_ok-write_text.ensures rest)
