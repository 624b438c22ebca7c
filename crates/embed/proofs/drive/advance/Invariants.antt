use Rattle.embed.proofs.Stepping.{Stepped}
use Rattle.embed.proofs.drive.advance.Given as goal

abbrev pub invariant-loop-taken : goal.invariant-loop-taken
invariant-loop-taken g l = Stepped l.initial.agent l.initial.outside l.taken l.agent l.outside
