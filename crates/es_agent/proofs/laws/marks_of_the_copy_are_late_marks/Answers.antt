use Rattle.es_agent.proofs.CallerLemmas.{late_marks_are}
use Rattle.es_agent.proofs.laws.marks_of_the_copy_are_late_marks.Goals as goal

pub returns : goal.returns
returns c = late_marks_are
