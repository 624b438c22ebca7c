use Rattle.es_laws.proofs.Whole.{settled_by_hearing}
use Rattle.es_laws.proofs.laws.what_is_heard_settles_a_run.Goals as goal

pub returns : goal.returns
returns c = settled_by_hearing
