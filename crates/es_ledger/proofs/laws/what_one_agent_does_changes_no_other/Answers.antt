use Rattle.es_ledger.proofs.Untouched.{untouched}
use Rattle.es_ledger.proofs.laws.what_one_agent_does_changes_no_other.Goals as goal

pub returns : goal.returns
returns c = untouched
