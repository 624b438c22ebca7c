use Rattle.std.proofs.lemmas.Result.{IfOk-weaker}
use Rattle.es_agent.proofs.CallerLemmas.{then_made, late_marks_are}
use Rattle.es_agent.proofs.agent.AgentCore.late_marks.Goals as goal

pub mark_more-requires-clause-made : goal.mark_more-requires-clause-made
mark_more-requires-clause-made g c = then_made c.args.self.now c.later-later.result.now c.derefed.result.now c.requires c.later-later.ensures c.derefed.ensures.then

pub returns : goal.returns
returns g c =
    IfOk-weaker c.mark_more.result _ _
    (λ m least. late_marks_are c.args.self.now c.later-later.result.now c.derefed.result.now m c.later-later.ensures c.derefed.ensures.given c.derefed.ensures.then least) c.mark_more.ensures.least
