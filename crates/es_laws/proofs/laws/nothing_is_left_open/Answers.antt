use Rattle.es_laws.proofs.Open.{nothing_left}
use Rattle.es_laws.proofs.laws.nothing_is_left_open.Goals as goal

pub returns : goal.returns
returns c = nothing_left
