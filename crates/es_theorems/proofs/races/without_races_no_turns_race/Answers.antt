use Rattle.es_theorems.proofs.Composing.{none_race}
use Rattle.es_theorems.proofs.races.without_races_no_turns_race.Goals as goal

pub returns : goal.returns
returns g plan ns ms c d o q calm left a free right b = none_race plan ns ms c d o q calm left a free right b
