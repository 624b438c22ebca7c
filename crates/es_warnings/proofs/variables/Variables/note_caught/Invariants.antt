use Rattle.std.proofs.Common.{drop}
use Rattle.es_warnings.specs.Known.{Leaves}
use Rattle.es_warnings.specs.Mentions.{caught}
use Rattle.es_warnings.proofs.variables.Variables.note_caught.Given as goal

abbrev pub invariant-loop-index : goal.invariant-loop-index
invariant-loop-index l = Leaves l.initial.self l.self (caught l.section 0 l.catches) (caught l.section l.index (drop l.index l.catches))
