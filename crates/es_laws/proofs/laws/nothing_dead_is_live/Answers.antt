use Rattle.es_event.proofs.Dead.{not_live}
use Rattle.es_laws.proofs.laws.nothing_dead_is_live.Goals as goal

pub returns : goal.returns
returns c = not_live
