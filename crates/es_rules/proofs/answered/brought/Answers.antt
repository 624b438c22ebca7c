use Rattle.std.proofs.Common.{◌∙◌, ap, sym, arith}
use Rattle.std.proofs.lemmas.Result.{IfOk-weaker}
use Rattle.es_event.specs.Later.{snapshot}
use Rattle.es_event.specs.Due.{shown}
use Rattle.es_rules.proofs.Answering.{block_next, block_makes}
use Rattle.es_rules.proofs.answered.brought.Goals as goal

pub returns-in-Run-clause-next : goal.returns-in-Run-clause-next
returns-in-Run-clause-next c =
    IfOk-weaker c.giving.result _ _
    (λ e is. rw is (rw c.next_identity.ensures.said
    (block_next c.args.agent.now c.in-Run.command.now c.args.row c.requires.takes (_, sym c.due.ensures ∙ ap (shown (snapshot c.args.agent.now.history)) c.in-Run.is))))
    c.giving.ensures

pub returns-in-Run-clause-comes : goal.returns-in-Run-clause-comes
returns-in-Run-clause-comes c =
    let one = block_makes c.args.agent.now c.in-Run.command.now c.args.row c.requires.takes (_, sym c.due.ensures ∙ ap (shown (snapshot c.args.agent.now.history)) c.in-Run.is) in
    IfOk-weaker c.giving.result _ _ (λ e is. rw is (omega (arith, one))) c.giving.ensures
