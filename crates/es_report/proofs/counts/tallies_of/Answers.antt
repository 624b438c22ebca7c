use Rattle.std.proofs.Common.{reverse, ap, ◌∙◌, ◌++◌, ◌∷◌, []}
use Rattle.es_report.specs.Tallies.{end_tally}
use Rattle.es_report.proofs.Lists.{mapped_more}
use Rattle.es_report.proofs.counts.tallies_of.Goals as goal

pub loop-history-preserved : goal.loop-history-preserved
loop-history-preserved c =
    mapped_more (λ events. end_tally (reverse events)) c.args.histories.now c.loop-history.history-index c.history-item.result c.loop-history.tallies.items c.push.new.self.items c.loop-history-test.true c.history-item.is c.loop-history.invariant
    (c.in_ok-push.ensures.items ∙ ap (λ t. c.loop-history.tallies.items ++ t ∷ []) (c.tally_back.ensures ∙ ap (λ events. end_tally (reverse events)) c.as_slice.ensures))
