use Rattle.es_theorems.proofs.Ending.{reports_alike}
use Rattle.es_theorems.proofs.threads.threads_report_as_turns_do.Goals as goal

pub returns : goal.returns
returns g plan o q alike left right = reports_alike plan o q alike left right
