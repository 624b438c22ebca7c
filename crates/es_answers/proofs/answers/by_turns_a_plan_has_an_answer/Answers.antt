use Rattle.es_answers.proofs.Each.{has_an_answer}
use Rattle.es_answers.proofs.answers.by_turns_a_plan_has_an_answer.Goals as goal

pub returns : goal.returns
returns c = has_an_answer
