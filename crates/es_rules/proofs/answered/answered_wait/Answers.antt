use Rattle.std.proofs.Common.{subst, sym}
use Rattle.es_event.specs.declared.event.Answer.TheVariants.{Gives}
use Rattle.es_value.specs.declared.value.Value.TheVariants.{Text}
use Rattle.es_rules.specs.Giving.{MayGive}
use Rattle.es_rules.proofs.Answering.{may_give_wait_result}
use Rattle.es_rules.proofs.answered.answered_wait.Goals as goal

pub answered-requires-clause-gives : goal.answered-requires-clause-gives
answered-requires-clause-gives c = subst (λ t. MayGive c.args.agent.now (Gives (Text t))) (sym c.in_ok-text.ensures) (may_give_wait_result c.args.agent.now c.args.ended c.requires.takes)
