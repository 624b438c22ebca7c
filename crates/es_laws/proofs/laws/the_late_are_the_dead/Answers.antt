use Rattle.es_event.proofs.Late.{late_are_dead}
use Rattle.es_laws.proofs.laws.the_late_are_the_dead.Goals as goal

pub returns : goal.returns
returns c = late_are_dead
