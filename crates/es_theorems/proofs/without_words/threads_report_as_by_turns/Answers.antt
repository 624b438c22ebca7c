use Rattle.es_theorems.proofs.Converse.{outcome_of_run}
use Rattle.es_theorems.proofs.Reports.{reports_in_threads}
use Rattle.es_theorems.proofs.without_words.threads_report_as_by_turns.Goals as goal

pub returns : goal.returns
returns g plan c o q shares a runs end = reports_in_threads plan o q shares a (outcome_of_run plan c q runs end)
