use Rattle.es_theorems.proofs.Arriving.{plan_comes_to_an_end}
use Rattle.es_theorems.proofs.turns.each_plan_comes_to_an_end.Goals as goal

pub returns : goal.returns
returns c = plan_comes_to_an_end
