use Rattle.std.proofs.Common.{refl, arith}
use Rattle.es_event.proofs.Alive.{next_alive}
use Rattle.es_record.proofs.Steps.{few}
use Rattle.es_record.proofs.agent_record.AgentRecord.identities.Goals as goal

pub overflow_cast-result : goal.overflow_cast-result
overflow_cast-result c = let small = few _ _ _ _ _ c.self.invariant.0 in omega (arith, c.made.ensures, small)

pub returns-clause-few : goal.returns-clause-few
returns-clause-few c = let small = few _ _ _ _ _ c.self.invariant.0 in omega (arith, c.made.ensures, small)

pub returns-clause-next : goal.returns-clause-next
returns-clause-next c = rw (← c.self.view_is) (next_alive _ _ _ c.self.invariant.0.legal _ refl)
