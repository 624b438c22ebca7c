use Rattle.es_laws.proofs.Accesses.{one_order}
use Rattle.es_laws.proofs.memory.accesses_have_one_order.Goals as goal

pub returns : goal.returns
returns c = one_order
