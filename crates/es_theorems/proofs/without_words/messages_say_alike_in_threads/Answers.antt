use Rattle.es_theorems.proofs.Reports.{says_in_threads}
use Rattle.es_theorems.proofs.without_words.messages_say_alike_in_threads.Goals as goal

pub returns : goal.returns
returns g plan o q shares a b = says_in_threads plan o q shares a b
