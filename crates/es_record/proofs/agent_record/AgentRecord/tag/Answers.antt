use Rattle.std.proofs.Common.{◌∙◌}
use Rattle.es_record.proofs.agent_record.AgentRecord.tag.Goals as goal

pub returns : goal.returns
returns c = rw (← c.self.view_is) (c.tag.ensures.tag ∙ c.self.invariant.0.says.tags c.args.id c.tag.ensures.positive)
