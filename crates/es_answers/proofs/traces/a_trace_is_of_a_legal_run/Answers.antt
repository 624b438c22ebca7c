use Rattle.es_answers.proofs.Traced.{legal_trace}
use Rattle.es_answers.proofs.traces.a_trace_is_of_a_legal_run.Goals as goal

pub returns : goal.returns
returns c = legal_trace
