use Rattle.es_event.proofs.Listing.{one_list}
use Rattle.es_laws.proofs.laws.the_dead_are_one_list.Goals as goal

pub returns : goal.returns
returns c = one_list
