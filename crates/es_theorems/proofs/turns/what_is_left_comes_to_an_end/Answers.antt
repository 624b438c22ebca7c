use Rattle.es_theorems.proofs.Arriving.{rest_comes_to_an_end}
use Rattle.es_theorems.proofs.turns.what_is_left_comes_to_an_end.Goals as goal

pub returns : goal.returns
returns c = rest_comes_to_an_end
