use Rattle.es_event.proofs.Alive.{kept_not_gone}
use Rattle.es_laws.proofs.laws.nothing_kept_is_gone.Goals as goal

pub returns : goal.returns
returns c = kept_not_gone
