use Rattle.std.proofs.Common.{◌∙◌}
use Rattle.es_record.proofs.Leading.{held_said}
use Rattle.es_record.proofs.agent_record.AgentRecord.held_of.Goals as goal

pub returns : goal.returns
returns c = rw (← c.self.view_is) (c.held_at.ensures ∙ held_said _ _ c.self.inside.tables c.self.invariant.0.says c.args.registration c.requires)
