use Rattle.es_ledger.proofs.Taken.{leaves_nobody}
use Rattle.es_ledger.proofs.laws.a_notify_of_all_leaves_nobody.Goals as goal

pub returns : goal.returns
returns c = leaves_nobody
