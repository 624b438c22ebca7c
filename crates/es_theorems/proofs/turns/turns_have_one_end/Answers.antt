use Rattle.es_theorems.proofs.Ends.{one_end}
use Rattle.es_theorems.proofs.turns.turns_have_one_end.Goals as goal

pub returns : goal.returns
returns c = one_end
