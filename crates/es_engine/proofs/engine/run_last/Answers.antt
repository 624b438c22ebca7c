use Rattle.es_engine.proofs.OneAnswer.{runs_as_by_turns}
use Rattle.es_engine.proofs.engine.run_last.Goals as goal

pub returns-clause-turns : goal.returns-clause-turns
returns-clause-turns g c =
    runs_as_by_turns c.answer.result c.args.options c.in_ok-plan.plan _ _ _ _ c.in_ok-plan.ensures.reads c.in_ok-plan.ensures.others c.in_ok-plan.ensures.quiet c.answer.ensures.answers
