use Rattle.es_answers.proofs.Traced.{trace_in_threads}
use Rattle.es_answers.proofs.traces.a_trace_is_of_an_outcome.Goals as goal

pub returns : goal.returns
returns c = trace_in_threads
