use Rattle.std.proofs.Common.{◌≡◌, take}
use Rattle.es_outcome.proofs.said.copied.Given as goal

abbrev pub invariant-loop-object : goal.invariant-loop-object
invariant-loop-object l = l.all.items ≡ take l.object-index l.buffers
