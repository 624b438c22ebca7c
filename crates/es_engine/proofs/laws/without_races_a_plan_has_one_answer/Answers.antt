use Rattle.es_engine.proofs.OneAnswer.{one_without_races}
use Rattle.es_engine.proofs.laws.without_races_a_plan_has_one_answer.Goals as goal

pub returns : goal.returns
returns c = one_without_races
