use Rattle.std.proofs.Common.{◌∙◌}
use Rattle.es_record.proofs.Leading.{registered_said}
use Rattle.es_record.proofs.agent_record.AgentRecord.registered.Goals as goal

pub returns : goal.returns
returns c = rw (← c.self.view_is) (c.registered.ensures ∙ registered_said _ _ c.self.inside.tables c.self.invariant.0.says)
