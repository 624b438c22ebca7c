use Rattle.std.proofs.Common.{◌∙◌, ap, subst, []}
use Rattle.es_record.specs.AgentView.{AgentView}
use Rattle.es_trace.specs.Keeping.{Keeps}
use Rattle.es_turns.proofs.Scribing.{scribes_more}
use Rattle.es_turns.proofs.chronicle.scribes_of.Goals as goal

pub loop-member-preserved : goal.loop-member-preserved
loop-member-preserved g c =
    let plan = c.plan.ensures ∙ ap (λ (b : AgentView). b.plan) c.core.ensures in
    let keeps = subst (λ p. Keeps c.args.names.now p [] c.in-Ok.scribe) plan c.in-Ok.ensures in
    scribes_more c.args.names.now c.args.members.now c.loop-member.member-index c.member-item.result c.loop-member.scribes.items c.push.new.self.items c.in-Ok.scribe c.loop-member-test.true c.member-item.is c.requires c.loop-member.invariant keeps
    c.in_ok-push.ensures.items
