use Rattle.std.proofs.Common.{◌≡◌, take, length}
use Rattle.es_mark.specs.Added.{AreAdded}
use Rattle.es_mark.proofs.ways.Ways.add_all.Given as goal

abbrev pub invariant-loop-way : goal.invariant-loop-way
invariant-loop-way l = record {
  added : AreAdded (take l.way-index l.ways) l.initial.self.list.items l.self.list.items;
  room : length l.self.places.items ≡ length l.initial.self.places.items;
}
