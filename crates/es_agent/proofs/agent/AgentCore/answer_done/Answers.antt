use Rattle.es_event.specs.declared.event.Event.TheVariants.{Did}
use Rattle.es_rules.proofs.Answering.{may_give_nothing}
use Rattle.es_agent.proofs.Racks.{has_after, done_leaves}
use Rattle.es_agent.proofs.agent.AgentCore.answer_done.Goals as goal

pub planned-requires : goal.planned-requires
planned-requires g c =
    let takes = rw (← c.self.view_is) at c.requires in
    let may = may_give_nothing c.self.inside.record takes in
    rw (c.read.ensures) (may.command, may.is_due)

pub invariant_of-self : goal.invariant_of-self
invariant_of-self g c =
    let event = c.in_ok-answered_done.ensures in
    let done = rw c.read-2.ensures at event.done in
    let next = rw c.read-2.ensures at event.next in
    let leaves = done_leaves c.self.inside.record _ (Did c.answered_done.new.done) done in
    has_after c.record_done.result c.self.inside.rack.tickets c.self.inside.record c.record_done.new.self (Did c.answered_done.new.done) c.self.invariant next leaves.0 leaves.1 c.record_done.ensures.ok c.record_done.ensures.err
