use Rattle.es_event.specs.Late.{derefed}
use Rattle.es_event.proofs.Late.{given_stays}
use Rattle.es_laws.proofs.laws.what_a_deref_gave_stays.Goals as goal

pub returns : goal.returns
returns c = λ into p g s. given_stays into p (derefed g) s
