use Rattle.es_ledger.proofs.Taken.{taken_till_woken}
use Rattle.es_ledger.proofs.laws.who_was_taken_is_woken.Goals as goal

pub returns : goal.returns
returns c = taken_till_woken
