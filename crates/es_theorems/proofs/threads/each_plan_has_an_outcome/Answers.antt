use Rattle.es_theorems.proofs.Converse.{some_outcome}
use Rattle.es_theorems.proofs.threads.each_plan_has_an_outcome.Goals as goal

pub returns : goal.returns
returns g = some_outcome
