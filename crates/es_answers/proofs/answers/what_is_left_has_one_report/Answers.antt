use Rattle.es_answers.proofs.Each.{one_report_of_rest}
use Rattle.es_answers.proofs.answers.what_is_left_has_one_report.Goals as goal

pub returns : goal.returns
returns c = one_report_of_rest
