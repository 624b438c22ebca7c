use Rattle.std.proofs.Common.{◌∙◌, ap}
use Rattle.std.specs.Prelude.{is_some}
use Rattle.es_record.proofs.agent_record.AgentRecord.is_registry.Goals as goal

pub returns : goal.returns
returns c = rw (← c.self.view_is) (c.is_some.ensures ∙ ap is_some (c.callback.ensures ∙ c.self.invariant.0.says.callbacks c.args.id))
