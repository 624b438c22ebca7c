use Rattle.std.proofs.Common.{◌≡◌, ◌++◌, drop}
use Rattle.es_match.specs.Meets.{serials_of, within}
use Rattle.es_match.proofs.tickets.serials_within.Given as goal

abbrev pub invariant-loop-object : goal.invariant-loop-object
invariant-loop-object l = serials_of (within l.ids l.tickets) ≡ l.found.items
    ++ serials_of (within l.ids (drop l.object-index l.tickets))
