use Rattle.std.proofs.lemmas.Result.{IfOk-weaker}
use Rattle.es_agent.proofs.Racks.{finish_open}
use Rattle.es_agent.proofs.CallerLemmas.{then_made, late_marks_are}
use Rattle.es_run.proofs.helpers.Helpers.finished.Goals as goal

pub mark_more-requires-clause-made : goal.mark_more-requires-clause-made
mark_more-requires-clause-made g c =
    then_made c.args.core.now c.later-later.result.now c.derefed-derefed.result.now (finish_open c.args.core.now c.requires) c.later-later.ensures c.derefed-derefed.ensures.then

pub mark_more-requires-2-clause-made : goal.mark_more-requires-2-clause-made
mark_more-requires-2-clause-made g c =
    then_made c.args.core.now c.later-later.result.now c.derefed-derefed.result.now (finish_open c.args.core.now c.requires) c.later-later.ensures c.derefed-derefed.ensures.then

pub returns-then-same : goal.returns-then-same
returns-then-same g c =
    IfOk-weaker c.mark_more.result _ _
    (λ m least. late_marks_are c.args.core.now c.later-later.result.now c.derefed-derefed.result.now m c.later-later.ensures c.derefed-derefed.ensures.given c.derefed-derefed.ensures.then least) c.mark_more.ensures.least

pub returns : goal.returns
returns g c =
    IfOk-weaker c.mark_more-2.result _ _
    (λ m least. late_marks_are c.args.core.now c.later-later.result.now c.derefed-derefed.result.now m c.later-later.ensures c.derefed-derefed.ensures.given c.derefed-derefed.ensures.then least) c.mark_more-2.ensures.least
