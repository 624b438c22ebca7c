use Rattle.es_record.proofs.Found.{finds_roots}
use Rattle.es_tables.proofs.Outcomes.{on_map}
use Rattle.es_record.proofs.agent_record.AgentRecord.add_roots.Goals as goal

pub returns : goal.returns
returns c = rw (← c.self.view_is) (on_map c.add_roots.result _ _ (λ adds. finds_roots _ _ c.self.inside.tables _ _ c.self.invariant.0.legal c.self.invariant.0.says adds) c.add_roots.ensures)
