use Rattle.std.proofs.Common.{◌≡◌, ◌+◌, ◌≤◌, drop, length}
use Rattle.es_match.specs.Meets.{within}
use Rattle.es_match.proofs.going.count_within.Given as goal

abbrev pub invariant-loop-object : goal.invariant-loop-object
invariant-loop-object l = (length (within l.ids l.tickets) ≡ l.count + length (within l.ids (drop l.object-index l.tickets))) ×
    (l.count ≤ l.object-index)
