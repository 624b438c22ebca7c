use Rattle.std.proofs.Common.{arith}
use Rattle.es_why.proofs.Weakly.{passed_one}
use Rattle.es_why.proofs.held_weakly.pass_identities.Goals as goal

pub loop-before-preserved : goal.loop-before-preserved
loop-before-preserved c =
    passed_one c.args.agent.now.over _ c.args.agent.now.history c.history.ensures.run.0 c.loop-before.before c.of-id.result _ _ _ _ c.target_of.result _ _ c.of-id.ensures
    (omega (arith, c.loop-before-test.true, c.identities-before-end.ensures.made)) c.loop-before.invariant c.target_of.ensures c.add_if.ensures c.in_ok-has_entry.ensures c.add_where.ensures
    c.in_ok-is_member.ensures c.add_where-in-loop-before.ensures
