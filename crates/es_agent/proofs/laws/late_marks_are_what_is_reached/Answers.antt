use Rattle.es_agent.proofs.LateReached.{late_marks_reached}
use Rattle.es_agent.proofs.laws.late_marks_are_what_is_reached.Goals as goal

pub returns : goal.returns
returns c = late_marks_reached
