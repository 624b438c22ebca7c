use Rattle.es_laws.proofs.Accesses.{stays}
use Rattle.es_laws.proofs.memory.a_word_stays_till_it_is_written.Goals as goal

pub returns : goal.returns
returns c = stays
