use Rattle.es_event.proofs.Alone.{one_whole_run}
use Rattle.es_laws.proofs.laws.a_plan_has_one_whole_run.Goals as goal

pub returns : goal.returns
returns c = one_whole_run
