use Rattle.es_answers.proofs.Traced.{tells_outcome}
use Rattle.es_answers.proofs.traces.a_trace_tells_the_plans_outcome.Goals as goal

pub returns : goal.returns
returns c = tells_outcome
