use Rattle.es_answers.proofs.Rows.{answer_is_line}
use Rattle.es_answers.proofs.traces.an_answer_is_the_reports_line.Goals as goal

pub returns : goal.returns
returns c = answer_is_line
