use Rattle.std.proofs.Common.{◌≡◌, take, length}
use Rattle.es_mark.specs.Added.{AreAdded}
use Rattle.es_mark.specs.Search.{released}
use Rattle.es_mark.proofs.search.release.Given as goal

abbrev pub invariant-loop-entry : goal.invariant-loop-entry
invariant-loop-entry l = record {
  added : AreAdded (released l.map (take l.entry-index l.waited)) l.initial.ways.list.items l.ways.list.items;
  room : length l.ways.places.items ≡ length l.initial.ways.places.items;
}
