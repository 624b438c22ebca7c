use Rattle.es_rules.proofs.Answering.{opening_next}
use Rattle.es_agent.specs.Later.{opening}
use Rattle.es_agent.proofs.Racks.{has_after}
use Rattle.es_agent.proofs.agent.AgentCore.begin_later.Goals as goal

pub invariant_of-self : goal.invariant_of-self
invariant_of-self g c =
    let due = rw (← c.self.view_is) at c.requires in
    has_after c.begin.result c.self.inside.rack.tickets c.self.inside.record c.begin.new.self opening c.self.invariant (opening_next c.self.inside.record due) tt (λ f. cc) c.begin.ensures.records c.begin.ensures.err
