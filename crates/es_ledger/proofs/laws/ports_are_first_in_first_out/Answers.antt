use Rattle.es_ledger.proofs.InOrder.{in_order}
use Rattle.es_ledger.proofs.laws.ports_are_first_in_first_out.Goals as goal

pub returns : goal.returns
returns c = in_order
