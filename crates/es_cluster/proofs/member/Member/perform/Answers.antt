use Rattle.es_cluster.proofs.MovingMembers.{local_leaves, holds_still}
use Rattle.es_cluster.proofs.Taking.{either}
use Rattle.es_cluster.proofs.member.Member.perform.Goals as goal

pub invariant_of-self : goal.invariant_of-self
invariant_of-self g c =
    either c.perform_alone.result c.perform_alone.ensures.asks c.perform_alone.ensures.done c.perform_alone.ensures.left c.perform_alone.ensures.err
    (λ due steps.
    (holds_still c.self.inside.core c.perform_alone.new.self c.self.inside.stake (local_leaves c.self.inside.core c.perform_alone.new.self due.0 steps) c.self.invariant.0, rw steps.2 c.self.invariant.1))
    (λ same. rw same c.self.invariant)
