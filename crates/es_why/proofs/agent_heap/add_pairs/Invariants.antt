use Rattle.std.proofs.Common.{◌≡◌, ◌++◌, take}
use Rattle.es_why.specs.Numbered.{pairs_of}
use Rattle.es_why.proofs.agent_heap.add_pairs.Given as goal

abbrev pub invariant-loop-entry : goal.invariant-loop-entry
invariant-loop-entry l = l.found.items ≡ l.initial.found.items ++ pairs_of (take l.entry-index l.entries)
