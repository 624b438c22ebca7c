use Rattle.es_event.proofs.Awaiting.{none_lost}
use Rattle.es_laws.proofs.laws.no_cleanup_is_lost.Goals as goal

pub returns : goal.returns
returns c = none_lost
