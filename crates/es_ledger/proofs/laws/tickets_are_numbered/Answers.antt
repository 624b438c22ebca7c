use Rattle.es_ledger.proofs.Numbered.{numbered}
use Rattle.es_ledger.proofs.laws.tickets_are_numbered.Goals as goal

pub returns : goal.returns
returns c = numbered
