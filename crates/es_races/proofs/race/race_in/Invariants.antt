use Rattle.std.proofs.Common.{reverse, take}
use Rattle.es_races.specs.Pass.{Says}
use Rattle.es_races.proofs.race.race_in.Given as goal

abbrev pub invariant-loop-event : goal.invariant-loop-event
invariant-loop-event l = Says (reverse (take l.event-index l.history)) l.pass
