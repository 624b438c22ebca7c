use Rattle.es_theorems.proofs.Converse.{outcome_of_turns}
use Rattle.es_theorems.proofs.threads.turns_are_outcomes.Goals as goal

pub returns : goal.returns
returns g plan turns end o turned ends = outcome_of_turns plan turns end o turned ends
