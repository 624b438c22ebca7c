use Rattle.std.proofs.Common.{ap, ◌∙◌}
use Rattle.std.specs.Prelude.{is_some}
use Rattle.es_match.proofs.Sleeping.{has_a_sleep}
use Rattle.es_match.proofs.ledger_pass.LedgerPass.is_asleep.Goals as goal

pub returns : goal.returns
returns c = λ l says. c.is_some.ensures ∙ ap is_some (c.sleep.ensures l says) ∙ has_a_sleep l c.args.agent
