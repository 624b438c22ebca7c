use Rattle.es_event.proofs.Fates.{not_twice}
use Rattle.es_laws.proofs.laws.nothing_is_taken_twice.Goals as goal

pub returns : goal.returns
returns c = not_twice
