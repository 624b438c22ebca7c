use Rattle.es_ledger.proofs.Waking.{takes_the_first}
use Rattle.es_ledger.proofs.laws.a_notify_takes_the_first.Goals as goal

pub returns : goal.returns
returns c = takes_the_first
