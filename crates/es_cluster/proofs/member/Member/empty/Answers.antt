use Rattle.es_cluster.proofs.MovingMembers.{collected_owns, collected_holds}
use Rattle.es_cluster.proofs.member.Member.empty.Goals as goal

pub spend_shared-requires : goal.spend_shared-requires
spend_shared-requires g c =
    collected_owns c.self.inside.core c.take_out.new.core c.self.inside.stake c.in_ok-rack.rack.tickets c.in_ok-rack.ensures.ok c.self.invariant.0

pub invariant_of-self : goal.invariant_of-self
invariant_of-self g c = rw c.in_err-rack.ensures.err c.self.invariant

pub invariant_of-self-2 : goal.invariant_of-self-2
invariant_of-self-2 g c =
    let emptied = c.in_ok-rack.ensures.ok in (
      collected_holds c.self.inside.core c.take_out.new.core c.self.inside.stake c.spend_shared.new.stake c.in_ok-rack.rack.tickets emptied c.self.invariant.0 c.spend_shared.ensures.agent c.spend_shared.ensures.counts,
      rw emptied.3 c.self.invariant.1,
    )
