use Rattle.es_theorems.proofs.Wordless.{messages_alone}
use Rattle.es_theorems.proofs.races.messages_alone_do_not_race.Goals as goal

pub returns : goal.returns
returns g plan ns c shares turned = messages_alone plan ns c shares turned
