use Rattle.std.proofs.Common.{◌≤◌, reverse, take}
use Rattle.es_races.specs.Walks.{Walked}
use Rattle.es_races.proofs.place.place_of.Given as goal

abbrev pub invariant-loop-event : goal.invariant-loop-event
invariant-loop-event l = record {
  walked : Walked (reverse (take l.event-index l.events)) l.walk;
  few_commands : l.walk.commands ≤ l.event-index;
  few_accesses : l.walk.accesses ≤ l.event-index;
  not_yet : l.walk.accesses ≤ l.number;
}
