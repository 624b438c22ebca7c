use Rattle.es_ledger.proofs.Taken.{woken_was_taken}
use Rattle.es_ledger.proofs.laws.who_is_woken_was_taken.Goals as goal

pub returns : goal.returns
returns c = woken_was_taken
