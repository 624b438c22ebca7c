use Rattle.es_why.proofs.Ranged.{WritesEach}
use Rattle.es_why.proofs.around.write_around_each.Given as goal

abbrev pub invariant-loop-before : goal.invariant-loop-before
invariant-loop-before g l = WritesEach l.agent.history l.before (g.W.Write.contents l.initial.writer) (g.W.Write.contents l.writer)
