use Rattle.es_event.proofs.Alive.{kept_not_gone}
use Rattle.es_record.proofs.agent_record.AgentRecord.kept.Goals as goal

pub returns-clause-there : goal.returns-clause-there
returns-clause-there c i =
    rw (← c.self.view_is) (kept_not_gone c.self.inside.plan _ i (c.self.inside.buffers.rows, c.self.invariant.0.legal, c.self.invariant.0.follows))
