use Rattle.es_event.proofs.Staying.{beside_other, stays_closed}
use Rattle.es_laws.proofs.laws.a_closed_set_stays_closed.Goals as goal

pub returns : goal.returns
returns c over into other h s m beside agree f o = stays_closed over other h s m (beside_other into other h s m agree beside) f o
