use Rattle.es_event.proofs.Late.{the_late}
use Rattle.es_laws.proofs.laws.the_late_can_be_listed.Goals as goal

pub returns : goal.returns
returns c = the_late
