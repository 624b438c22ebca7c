use Rattle.std.proofs.Common.{refl, sym, ◌∙◌, zero-add, arith}
use Rattle.es_record.proofs.Standing.{ties_closed}
use Rattle.es_record.proofs.agent_record.AgentRecord.close.Goals as goal

pub invariant_of-self : goal.invariant_of-self
invariant_of-self c =
    let asked = rw (← c.self.view_is) at c.requires in
    rw c.append.ensures.events (ties_closed _ _ _ _ _ c.self.invariant.0 asked, c.self.invariant.1, (λ ne. absurd (ne refl)), (let small = c.self.invariant.3 in omega (arith, small)), c.self.invariant.4 ∙ sym (zero-add _), c.self.invariant.5 ∙ sym (zero-add _), c.self.invariant.6, c.self.invariant.7)
