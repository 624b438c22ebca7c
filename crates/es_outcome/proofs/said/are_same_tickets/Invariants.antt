use Rattle.std.proofs.Common.{◌≡◌, take}
use Rattle.es_outcome.proofs.said.are_same_tickets.Given as goal

abbrev pub invariant-loop-place : goal.invariant-loop-place
invariant-loop-place l = take l.place l.left ≡ take l.place l.right
