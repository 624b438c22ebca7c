use Rattle.es_engine.proofs.OneAnswer.{one_answer}
use Rattle.es_engine.proofs.laws.a_plan_has_one_answer.Goals as goal

pub returns : goal.returns
returns c = one_answer
