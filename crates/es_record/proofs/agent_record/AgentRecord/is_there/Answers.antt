use Rattle.std.proofs.Common.{◌∙◌}
use Rattle.es_record.proofs.Leading.{tag_there}
use Rattle.es_record.proofs.agent_record.AgentRecord.is_there.Goals as goal

pub returns : goal.returns
returns c =
    rw (← c.self.view_is)
    (c.is_some.ensures ∙ tag_there _ c.args.id c.tag.result (c.tag.ensures.tag ∙ c.self.invariant.0.says.tags c.args.id c.tag.ensures.positive))
