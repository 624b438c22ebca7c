use Rattle.es_event.proofs.Dead.{lacked_not_live}
use Rattle.es_laws.proofs.laws.nothing_that_a_closed_set_lacks_is_live.Goals as goal

pub returns : goal.returns
returns c = lacked_not_live
