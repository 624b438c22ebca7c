use Rattle.es_ledger.proofs.Waking.{listed_once}
use Rattle.es_ledger.proofs.laws.nobody_is_listed_twice.Goals as goal

pub returns : goal.returns
returns c = listed_once
