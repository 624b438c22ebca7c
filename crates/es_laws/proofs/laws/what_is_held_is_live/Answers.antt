use Rattle.es_laws.proofs.Observing.{held_live}
use Rattle.es_laws.proofs.laws.what_is_held_is_live.Goals as goal

pub returns : goal.returns
returns c = held_live
