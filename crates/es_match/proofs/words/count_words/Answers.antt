use Rattle.std.proofs.Common.{arith, sym}
use Rattle.es_match.proofs.Splitting.{one_more_word}
use Rattle.es_match.proofs.words.count_words.Goals as goal

pub loop-count-preserved : goal.loop-count-preserved
loop-count-preserved c = record {
  within = omega arith;
  words = one_more_word c.args.by c.args.events.now c.loop-count.count c.index-events-count.result (omega arith) c.index-events-count.is
      (sym (c.if-is_word_by.ensures)) c.loop-count.invariant.words;
}
