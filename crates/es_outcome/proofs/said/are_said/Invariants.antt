use Rattle.std.proofs.Common.{◌≡◌, map, take}
use Rattle.es_outcome.specs.Said.{told_of}
use Rattle.es_outcome.proofs.said.are_said.Given as goal

abbrev pub invariant-loop-place : goal.invariant-loop-place
invariant-loop-place l = take l.place (map told_of l.came) ≡ take l.place l.said
