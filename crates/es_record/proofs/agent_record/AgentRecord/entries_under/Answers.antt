use Rattle.es_tables.proofs.Outcomes.{on_map, on_both}
use Rattle.es_record.proofs.Leading.{adds_under}
use Rattle.es_record.proofs.agent_record.AgentRecord.entries_under.Goals as goal

pub returns : goal.returns
returns c =
    rw (← c.self.view_is)
    (on_map c.entries_under.result _ _ (λ both. adds_under _ _ c.self.inside.tables c.args.key _ _ c.self.invariant.0.says both.1 both.0)
    (on_both c.entries_under.result _ _ c.entries_under.ensures.added c.entries_under.ensures.distinct))
