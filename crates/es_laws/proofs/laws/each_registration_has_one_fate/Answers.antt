use Rattle.es_event.proofs.Fates.{tallies_add_up}
use Rattle.es_laws.proofs.laws.each_registration_has_one_fate.Goals as goal

pub returns : goal.returns
returns c = tallies_add_up
