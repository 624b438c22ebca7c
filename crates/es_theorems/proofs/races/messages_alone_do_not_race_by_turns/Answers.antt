use Rattle.es_theorems.proofs.Reports.{alone_by_turns}
use Rattle.es_theorems.proofs.races.messages_alone_do_not_race_by_turns.Goals as goal

pub returns : goal.returns
returns g plan shares c run = alone_by_turns plan shares c run
