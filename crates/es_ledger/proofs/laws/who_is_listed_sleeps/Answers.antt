use Rattle.es_ledger.proofs.Waking.{listed_asleep}
use Rattle.es_ledger.proofs.laws.who_is_listed_sleeps.Goals as goal

pub returns : goal.returns
returns c = listed_asleep
