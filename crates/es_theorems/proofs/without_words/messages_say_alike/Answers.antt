use Rattle.es_theorems.proofs.Reports.{wordless_say_alike}
use Rattle.es_theorems.proofs.without_words.messages_say_alike.Goals as goal

pub returns : goal.returns
returns g plan ns ms c d o q shares left a right b = wordless_say_alike plan ns ms c d o q shares left a right b
