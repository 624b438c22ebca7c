use Rattle.es_theorems.proofs.Reports.{reports_in_threads}
use Rattle.es_theorems.proofs.without_words.messages_report_alike.Goals as goal

pub returns : goal.returns
returns g plan o q shares a b = reports_in_threads plan o q shares a b
