use Rattle.es_record.specs.AgentView.{AgentView}
use Rattle.es_tables.proofs.Outcomes.{if_map}
use Rattle.es_record.proofs.Reached.{marks_reached}
use Rattle.es_record.proofs.agent_record.AgentRecord.marks.Goals as goal

pub returns-clause-reached : goal.returns-clause-reached
returns-clause-reached c =
    let view : AgentView = record { plan = c.self.inside.plan; number = c.self.inside.number; agents = c.self.inside.agents; over = c.self.inside.buffers.rows; history = c.self.inside.events.events } in
    let run = c.self.invariant.0 in
    rw (← c.self.view_is) (if_map c.mark.result _ _ (λ m least. marks_reached view m (c.self.inside.buffers.rows, run.legal, run.follows) least) (rw (← c.self.view_is) at c.mark.ensures.least))
