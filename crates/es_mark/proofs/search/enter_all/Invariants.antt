use Rattle.std.proofs.Common.{◌≡◌, take, length}
use Rattle.es_mark.specs.Search.{AreEntered}
use Rattle.es_mark.proofs.search.enter_all.Given as goal

abbrev pub invariant-loop-entry : goal.invariant-loop-entry
invariant-loop-entry l = record {
  entered : AreEntered l.count l.key (take l.entry-index l.entries) l.initial.ways.list.items l.initial.waiting l.ways.list.items l.waiting;
  room : length l.ways.places.items ≡ length l.initial.ways.places.items;
}
