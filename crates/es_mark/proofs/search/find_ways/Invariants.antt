use Rattle.std.proofs.Common.{◌-◌, length, take}
use Rattle.es_mark.specs.Search.{HasRoom, Searching, Sorting}
use Rattle.es_mark.proofs.search.find_ways.Given as goal

abbrev pub invariant-queue : goal.invariant-queue
invariant-queue g l = record {
  room : HasRoom (g.H.Heap.leads l.heap) (length l.ways.places.items);
  searching : Searching (g.H.Heap.leads l.heap) l.followed l.ways.list.items l.waiting;
  sorting : Sorting (g.H.Heap.leads l.heap) (take l.followed l.ways.list.items) l.ways.list.items;
}

abbrev pub decreases-queue : goal.decreases-queue
decreases-queue g l = length l.ways.places.items - l.followed
