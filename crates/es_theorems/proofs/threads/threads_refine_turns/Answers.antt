use Rattle.es_theorems.proofs.Ending.{refines}
use Rattle.es_theorems.proofs.threads.threads_refine_turns.Goals as goal

pub returns : goal.returns
returns g plan o is = refines plan o is
