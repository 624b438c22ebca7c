use Rattle.es_laws.proofs.Observing.{holding_live}
use Rattle.es_laws.proofs.laws.what_a_cell_holds_is_live.Goals as goal

pub returns : goal.returns
returns c = holding_live
