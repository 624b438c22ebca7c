use Rattle.es_theorems.proofs.Ending.{ends_alike}
use Rattle.es_theorems.proofs.threads.threads_end_as_turns_do.Goals as goal

pub returns : goal.returns
returns g plan o q alike left right = ends_alike plan o q alike left right
