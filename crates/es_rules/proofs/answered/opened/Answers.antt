use Rattle.std.proofs.Common.{◌∙◌, ap, sym, refl}
use Rattle.std.proofs.lemmas.Result.{IfOk-weaker}
use Rattle.es_event.specs.Later.{snapshot}
use Rattle.es_event.specs.Due.{shown}
use Rattle.es_rules.proofs.Answering.{opening_is, opening_next}
use Rattle.es_rules.proofs.answered.opened.Goals as goal

pub returns-clause-said : goal.returns-clause-said
returns-clause-said c =
    IfOk-weaker c.giving.result _ _
    (λ e is. rw is (rw (opening_is c.args.agent.now c.in-Run.command.now c.requires (_, sym c.due.ensures ∙ ap (shown (snapshot c.args.agent.now.history)) c.in-Run.is)) refl))
    c.giving.ensures

pub returns-clause-next : goal.returns-clause-next
returns-clause-next c =
    IfOk-weaker c.giving.result _ _
    (λ e is. rw is (rw (opening_is c.args.agent.now c.in-Run.command.now c.requires (_, sym c.due.ensures ∙ ap (shown (snapshot c.args.agent.now.history)) c.in-Run.is)) (opening_next c.args.agent.now c.requires)))
    c.giving.ensures
