use Rattle.es_event.proofs.Alive.{honest_along}
use Rattle.es_laws.proofs.laws.nothing_emptied_was_live.Goals as goal

pub returns : goal.returns
returns c plan h run = honest_along run.0 plan h run.1 run.2
