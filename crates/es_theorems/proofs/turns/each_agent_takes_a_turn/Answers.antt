use Rattle.es_theorems.proofs.Arriving.{each_takes_a_turn}
use Rattle.es_theorems.proofs.turns.each_agent_takes_a_turn.Goals as goal

pub returns : goal.returns
returns c = each_takes_a_turn
