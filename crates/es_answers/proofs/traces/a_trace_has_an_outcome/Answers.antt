use Rattle.es_answers.proofs.Traced.{trace_outcome}
use Rattle.es_answers.proofs.traces.a_trace_has_an_outcome.Goals as goal

pub returns : goal.returns
returns c = trace_outcome
