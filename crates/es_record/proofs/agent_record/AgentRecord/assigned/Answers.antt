use Rattle.std.proofs.lemmas.Result.{IfOk-weaker}
use Rattle.es_record.proofs.Leading.{names_all}
use Rattle.es_record.proofs.agent_record.AgentRecord.assigned.Goals as goal

pub returns-clause-all : goal.returns-clause-all
returns-clause-all c =
    rw (← c.self.view_is)
    (IfOk-weaker c.assigned.result _ _ (λ ns is. names_all _ _ c.self.inside.tables c.self.invariant.0.says ns.items is) c.assigned.ensures.names)
