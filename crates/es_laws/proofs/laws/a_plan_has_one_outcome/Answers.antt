use Rattle.es_event.proofs.OneOutcome.{one_outcome}
use Rattle.es_laws.proofs.laws.a_plan_has_one_outcome.Goals as goal

pub returns : goal.returns
returns c = one_outcome
