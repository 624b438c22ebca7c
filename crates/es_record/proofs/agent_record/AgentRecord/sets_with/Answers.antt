use Rattle.es_tables.proofs.Outcomes.{on_map, on_both}
use Rattle.es_record.proofs.Leading.{adds_sets}
use Rattle.es_record.proofs.agent_record.AgentRecord.sets_with.Goals as goal

pub returns : goal.returns
returns c =
    rw (← c.self.view_is)
    (on_map c.sets_with.result _ _ (λ both. adds_sets _ _ c.self.inside.tables c.args.member _ _ c.self.invariant.0.says both.1 both.0)
    (on_both c.sets_with.result _ _ c.sets_with.ensures.added c.sets_with.ensures.distinct))
