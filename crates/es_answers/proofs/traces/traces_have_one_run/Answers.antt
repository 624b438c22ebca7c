use Rattle.es_answers.proofs.Traced.{traces_one_run}
use Rattle.es_answers.proofs.traces.traces_have_one_run.Goals as goal

pub returns : goal.returns
returns c = traces_one_run
