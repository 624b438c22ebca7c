use Rattle.std.proofs.Common.{◌∙◌, ap}
use Rattle.es_tables.specs.Tags.{is_tag}
use Rattle.es_record.proofs.Found.{tagged_as}
use Rattle.es_record.proofs.agent_record.AgentRecord.has_tag.Goals as goal

pub returns : goal.returns
returns c =
    let here = rw (← c.self.view_is) at c.requires in
    rw (← c.self.view_is) (
    c.is_tag.ensures
    ∙ ap (is_tag c.args.tag) c.tag.ensures.tag
    ∙ tagged_as _ _ _ c.self.inside.tables c.args.tag c.self.invariant.0.legal c.self.invariant.0.says c.args.object c.tag.ensures.positive here
    )
