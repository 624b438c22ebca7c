use Rattle.es_why.specs.Weakly.{Passed}
use Rattle.es_why.proofs.held_weakly.pass_identities.Given as goal

abbrev pub invariant-loop-before : goal.invariant-loop-before
invariant-loop-before l = Passed l.agent.history l.before 0 l.flags
