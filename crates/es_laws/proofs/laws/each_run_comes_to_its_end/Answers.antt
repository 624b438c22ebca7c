use Rattle.es_laws.proofs.Whole.{comes_to_its_end}
use Rattle.es_laws.proofs.laws.each_run_comes_to_its_end.Goals as goal

pub returns : goal.returns
returns c = comes_to_its_end
