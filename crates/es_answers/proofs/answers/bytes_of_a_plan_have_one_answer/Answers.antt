use Rattle.es_answers.proofs.Each.{one_answer_to}
use Rattle.es_answers.proofs.answers.bytes_of_a_plan_have_one_answer.Goals as goal

pub returns : goal.returns
returns c = one_answer_to
