use Rattle.std.proofs.Common.{◌≡◌, ◌++◌, take}
use Rattle.es_parmark.specs.Pairs.{pairs_said}
use Rattle.es_parmark.proofs.expanding.add_pairs.Given as goal

abbrev pub invariant-loop-entry : goal.invariant-loop-entry
invariant-loop-entry l = l.pairs.items ≡ l.initial.pairs.items ++ pairs_said (take l.entry-index l.entries)
