use Rattle.std.proofs.Common.{◌∙◌, ap, sym, subst}
use Rattle.std.proofs.lemmas.Result.{on_ok_weaker}
use Rattle.es_event.specs.declared.event.Event.TheVariants.{Did}
use Rattle.es_event.specs.Due.{shown}
use Rattle.es_event.specs.Later.{snapshot}
use Rattle.es_record.specs.AgentView.{IsNext}
use Rattle.es_rules.proofs.Answering.{done_next}
use Rattle.es_rules.proofs.answered.answered.Goals as goal

pub returns-clause-next : goal.returns-clause-next
returns-clause-next c =
    let b = c.args.agent.now in
    let here = sym c.due.ensures ∙ ap (shown (snapshot b.history)) c.in-Run.is in
    let next = done_next b c.args.answer c.in-Run.command.now c.requires.gives (_, here) in
    on_ok_weaker c.give.result (λ is. subst (λ d. IsNext b (Did d)) (sym (is ∙ ap (λ d. (d.0, d.1, c.args.answer)) c.in_ok-read-in-Run.ensures.said)) next) c.give.ensures
