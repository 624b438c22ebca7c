use Rattle.es_ledger.proofs.Tallies.{released_where}
use Rattle.es_ledger.proofs.laws.released_where_nobody_holds.Goals as goal

pub returns : goal.returns
returns c = released_where
