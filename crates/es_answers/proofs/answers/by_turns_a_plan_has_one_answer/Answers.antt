use Rattle.es_answers.proofs.Each.{one_answer}
use Rattle.es_answers.proofs.answers.by_turns_a_plan_has_one_answer.Goals as goal

pub returns : goal.returns
returns c = one_answer
