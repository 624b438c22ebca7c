use Rattle.es_theorems.proofs.OneRun.{one_run}
use Rattle.es_theorems.proofs.turns.turns_are_one_run.Goals as goal

pub returns : goal.returns
returns c = one_run
