use Rattle.es_theorems.proofs.Reports.{says_as_by_turns}
use Rattle.es_theorems.proofs.races.without_races_threads_say_as_by_turns.Goals as goal

pub returns : goal.returns
returns g plan c o q calm a run free ends = says_as_by_turns plan c o q calm a run free ends
