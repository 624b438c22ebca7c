use Rattle.es_laws.proofs.Accesses.{seen}
use Rattle.es_laws.proofs.memory.what_was_stored_before_a_post_is_seen.Goals as goal

pub returns : goal.returns
returns c = seen
