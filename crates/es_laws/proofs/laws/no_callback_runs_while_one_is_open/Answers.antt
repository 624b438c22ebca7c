use Rattle.es_laws.proofs.Open.{none_in_cleanup}
use Rattle.es_laws.proofs.laws.no_callback_runs_while_one_is_open.Goals as goal

pub returns : goal.returns
returns c = none_in_cleanup
