use Rattle.std.proofs.Common.{◌∙◌, ap}
use Rattle.es_record.proofs.Cells.{live_said, awaiting_said, unregistered_said, taken_said}
use Rattle.es_record.proofs.agent_record.AgentRecord.tally.Goals as goal

pub returns-clause-live : goal.returns-clause-live
returns-clause-live c = rw (← c.self.view_is) (ap (λ t. t.live) c.tally.ensures ∙ live_said c.self.inside.events.events c.self.inside.tables.registries.cells c.self.invariant.0.says.cells)

pub returns-clause-awaiting : goal.returns-clause-awaiting
returns-clause-awaiting c = rw (← c.self.view_is) (ap (λ t. t.awaiting) c.tally.ensures ∙ awaiting_said c.self.inside.events.events c.self.inside.tables.registries.cells c.self.invariant.0.says.cells)

pub returns-clause-unregistered : goal.returns-clause-unregistered
returns-clause-unregistered c = rw (← c.self.view_is) (ap (λ t. t.unregistered) c.tally.ensures ∙ unregistered_said c.self.inside.events.events c.self.inside.tables.registries.cells c.self.invariant.0.says.cells)

pub returns-clause-taken : goal.returns-clause-taken
returns-clause-taken c = rw (← c.self.view_is) (ap (λ t. t.taken) c.tally.ensures ∙ taken_said c.self.inside.events.events c.self.inside.tables.registries.cells c.self.invariant.0.says.cells)
