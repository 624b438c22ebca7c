use Rattle.std.proofs.Common.{◌≡◌, take, length}
use Rattle.es_mark.specs.Listed.{IsAdded}
use Rattle.es_mark.proofs.reached.Reached.add_all.Given as goal

abbrev pub invariant-loop-id : goal.invariant-loop-id
invariant-loop-id l = record {
  added : IsAdded (take l.id-index l.ids) l.initial.self.order.items l.self.order.items;
  room : length l.self.marks ≡ length l.initial.self.marks;
}
