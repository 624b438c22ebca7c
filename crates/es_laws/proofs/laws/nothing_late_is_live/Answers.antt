use Rattle.es_event.proofs.Late.{late_not_live}
use Rattle.es_laws.proofs.laws.nothing_late_is_live.Goals as goal

pub returns : goal.returns
returns c = late_not_live
