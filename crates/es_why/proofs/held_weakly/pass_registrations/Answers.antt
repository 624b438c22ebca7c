use Rattle.es_event.specs.Identities.{made}
use Rattle.es_why.proofs.Weakly.{passed_registration}
use Rattle.es_why.proofs.held_weakly.pass_registrations.Goals as goal

pub loop-before-preserved : goal.loop-before-preserved
loop-before-preserved c =
    passed_registration c.args.agent.now.over _ c.args.agent.now.history c.history.ensures.run.0 (made c.args.agent.now.history) c.loop-before.before _ _ c.loop-before.invariant c.pass_registration.ensures
