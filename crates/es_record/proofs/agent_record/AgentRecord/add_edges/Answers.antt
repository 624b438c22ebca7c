use Rattle.es_record.specs.AgentView.{AgentView}
use Rattle.es_record.proofs.Found.{finds_edges}
use Rattle.es_tables.proofs.Outcomes.{on_map}
use Rattle.es_record.proofs.agent_record.AgentRecord.add_edges.Goals as goal

pub returns : goal.returns
returns c =
    let view : AgentView = record { plan = c.self.inside.plan; number = c.self.inside.number; agents = c.self.inside.agents; over = c.self.inside.buffers.rows; history = c.self.inside.events.events } in
    rw (← c.self.view_is)
    (on_map c.add_edges.result _ _ (λ adds. finds_edges _ view c.self.inside.tables c.args.id _ _ c.self.invariant.0.legal c.self.invariant.0.says adds) c.add_edges.ensures)
