use Rattle.es_event.proofs.Fates.{move_forward}
use Rattle.es_laws.proofs.laws.fates_move_forward.Goals as goal

pub returns : goal.returns
returns c = move_forward
