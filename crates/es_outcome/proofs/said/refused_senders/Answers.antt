use Rattle.std.proofs.Common.{sym, ◌∙◌, reverse}
use Rattle.es_outcome.proofs.Waiting.{none_refused}
use Rattle.es_outcome.proofs.said.refused_senders.Goals as goal

pub returns-then-waits_for_nobody : goal.returns-then-waits_for_nobody
returns-then-waits_for_nobody c =
    c.new-senders.ensures.items ∙ sym (none_refused c.args.plan.now (sym c.waits_for_nobody.ensures ∙ c.if-waits_for_nobody.true) (reverse c.args.history.now))
