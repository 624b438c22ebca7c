use Rattle.std.proofs.Common.{◌≡◌, ◌++◌, drop}
use Rattle.es_match.specs.Meets.{beyond}
use Rattle.es_match.proofs.tickets.others.Given as goal

abbrev pub invariant-loop-object : goal.invariant-loop-object
invariant-loop-object l = beyond l.ids l.tickets ≡ l.found.items ++ beyond l.ids (drop l.object-index l.tickets)
