use Rattle.es_ledger.proofs.Sums.{counts_add_up}
use Rattle.es_ledger.proofs.laws.counts_are_sums.Goals as goal

pub returns : goal.returns
returns c = counts_add_up
