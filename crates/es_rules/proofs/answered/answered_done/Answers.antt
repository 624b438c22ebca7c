use Rattle.es_rules.proofs.Answering.{may_give_nothing}
use Rattle.es_rules.proofs.answered.answered_done.Goals as goal

pub answered-requires-clause-gives : goal.answered-requires-clause-gives
answered-requires-clause-gives c = may_give_nothing c.args.agent.now c.requires.takes
