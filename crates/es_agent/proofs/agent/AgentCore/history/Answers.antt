use Rattle.es_agent.proofs.Racks.{ticket_named}
use Rattle.es_agent.proofs.agent.AgentCore.history.Goals as goal

pub returns-clause-named : goal.returns-clause-named
returns-clause-named g c =
    rw (← c.self.view_is) (λ o r here. ticket_named c.self.inside.record o r c.self.invariant.1 here)
