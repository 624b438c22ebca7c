use Rattle.es_theorems.proofs.Arriving.{not_stuck}
use Rattle.es_theorems.proofs.turns.no_cluster_is_stuck.Goals as goal

pub returns : goal.returns
returns c = not_stuck
