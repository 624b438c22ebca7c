use Rattle.es_event.proofs.Late.{one_late_list}
use Rattle.es_laws.proofs.laws.the_late_are_one_list.Goals as goal

pub returns : goal.returns
returns c = one_late_list
