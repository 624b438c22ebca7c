use Rattle.std.proofs.Common.{◌≡◌, ◌++◌, drop}
use Rattle.es_match.specs.Meets.{serials_of}
use Rattle.es_match.proofs.tickets.serials_of.Given as goal

abbrev pub invariant-loop-row : goal.invariant-loop-row
invariant-loop-row l = serials_of l.tickets ≡ l.found.items ++ serials_of (drop l.row-index l.tickets)
