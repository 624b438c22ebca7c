use Rattle.std.proofs.Common.{◌∙◌}
use Rattle.es_record.proofs.Leading.{registration_kept}
use Rattle.es_record.proofs.agent_record.AgentRecord.registration.Goals as goal

pub returns : goal.returns
returns c = rw (← c.self.view_is) (c.registration_at.ensures ∙ registration_kept _ _ c.self.inside.tables c.self.invariant.0.says c.args.registration c.requires)
