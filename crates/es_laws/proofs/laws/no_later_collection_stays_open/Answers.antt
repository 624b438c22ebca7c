use Rattle.es_laws.proofs.Open.{none_open}
use Rattle.es_laws.proofs.laws.no_later_collection_stays_open.Goals as goal

pub returns : goal.returns
returns c = none_open
