use Rattle.es_theorems.proofs.Converse.{outcome_of_run}
use Rattle.es_theorems.proofs.threads.by_turns_is_an_outcome.Goals as goal

pub returns : goal.returns
returns g = outcome_of_run
