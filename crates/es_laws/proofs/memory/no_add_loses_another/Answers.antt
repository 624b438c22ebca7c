use Rattle.es_laws.proofs.Accesses.{all_added}
use Rattle.es_laws.proofs.memory.no_add_loses_another.Goals as goal

pub returns : goal.returns
returns c = all_added
