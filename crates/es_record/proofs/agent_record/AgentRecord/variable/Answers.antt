use Rattle.es_tables.proofs.Outcomes.{if_map}
use Rattle.es_record.proofs.Steps.{held_there}
use Rattle.es_record.proofs.agent_record.AgentRecord.variable.Goals as goal

pub returns-clause-said : goal.returns-clause-said
returns-clause-said c = rw (← c.self.view_is, ← c.self.invariant.0.says.variables c.args.name.now) c.variable.ensures

pub returns-clause-there : goal.returns-clause-there
returns-clause-there c = rw (← c.self.view_is) (if_map c.variable.result _ _ (λ v is. held_there _ _ _ _ _ c.args.name.now v c.self.invariant.0 is) c.variable.ensures)
