use Rattle.es_agent.proofs.Racks.{ticket_named}
use Rattle.es_agent.proofs.agent.AgentCore.ticket.Goals as goal

pub returns-clause-named : goal.returns-clause-named
returns-clause-named g c =
    let here = rw (c.self.invariant.0) at c.get.ensures in
    rw (← c.self.view_is) (ticket_named c.self.inside.record c.args.buffer c.get.result.now c.self.invariant.1 here)
