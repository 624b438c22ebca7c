use Rattle.es_theorems.proofs.Composing.{says_alike}
use Rattle.es_theorems.proofs.races.without_races_turns_say_alike.Goals as goal

pub returns : goal.returns
returns g plan ns ms c d o q calm left a free right b = says_alike plan ns ms c d o q calm left a free right b
