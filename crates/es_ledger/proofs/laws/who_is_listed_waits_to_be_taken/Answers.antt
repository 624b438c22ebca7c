use Rattle.es_ledger.proofs.Taken.{listed_till_taken}
use Rattle.es_ledger.proofs.laws.who_is_listed_waits_to_be_taken.Goals as goal

pub returns : goal.returns
returns c = listed_till_taken
