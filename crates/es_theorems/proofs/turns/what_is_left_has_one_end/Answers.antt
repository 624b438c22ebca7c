use Rattle.es_theorems.proofs.Ends.{rest_has_one_end}
use Rattle.es_theorems.proofs.turns.what_is_left_has_one_end.Goals as goal

pub returns : goal.returns
returns c = rest_has_one_end
