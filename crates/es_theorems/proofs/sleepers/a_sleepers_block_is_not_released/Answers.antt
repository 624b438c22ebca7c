use Rattle.es_theorems.proofs.Dozing.{stays_held}
use Rattle.es_theorems.proofs.sleepers.a_sleepers_block_is_not_released.Goals as goal

pub returns : goal.returns
returns c = stays_held
