use Rattle.es_event.specs.Identities.{made}
use Rattle.es_why.specs.Weakly.{Passed}
use Rattle.es_why.proofs.held_weakly.pass_registrations.Given as goal

abbrev pub invariant-loop-before : goal.invariant-loop-before
invariant-loop-before l = Passed l.agent.history (made l.agent.history) l.before l.flags
