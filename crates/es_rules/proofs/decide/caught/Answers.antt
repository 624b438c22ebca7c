use Rattle.std.proofs.Common.{◌≡◌, ap, sym, ◌∙◌, Some, None}
use Rattle.std.specs.Option.{option_copied}
use Rattle.es_event.specs.Order.{due, run}
use Rattle.es_rules.proofs.Answering.{caught_next, refused_next}
use Rattle.es_rules.proofs.decide.caught.Goals as goal

pub returns-in_ok-catch_refusal-in-Run-Some-default-clause-caught : goal.returns-in_ok-catch_refusal-in-Run-Some-default-clause-caught
returns-in_ok-catch_refusal-in-Run-Some-default-clause-caught c =
    let b = c.args.agent.now in
    let arm = c.in-Run-Some-default in
    let command = arm.field-1.now in
    let is : due b.plan b.history ≡ run (Some arm.to.now) command = sym arm.ensures ∙ ap (λ o. run (option_copied o) command) arm.field-0-is in
    rw c.in_ok-catch_refusal-in-Run-Some-default.ensures (caught_next b arm.to.now command c.args.code is (c.requires.refused _ _ is))

pub returns-in-Run-None-default-clause-refused : goal.returns-in-Run-None-default-clause-refused
returns-in-Run-None-default-clause-refused c =
    let b = c.args.agent.now in
    let arm = c.in-Run-None-default in
    let command = arm.field-1.now in
    let is : due b.plan b.history ≡ run None command = sym arm.ensures ∙ ap (λ o. run (option_copied o) command) arm.field-0-is in
    refused_next b command c.args.code is (c.requires.refused _ _ is)
