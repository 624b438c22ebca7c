use Rattle.std.proofs.Common.{◌≡◌, ◌-◌, take, drop, length}
use Rattle.std.specs.List.{flat_map}
use Rattle.es_mark.specs.Listed.{IsAdded}
use Rattle.es_mark.specs.Waiting.{waiting_for}
use Rattle.es_parmark.proofs.entering.release.Given as goal

abbrev pub invariant-loop-at : goal.invariant-loop-at
invariant-loop-at l = record {
  added : IsAdded (flat_map (waiting_for l.waiting) (take (l.at - l.from) (drop l.from l.initial.reached.order.items))) l.initial.reached.order.items l.reached.order.items;
  room : length l.reached.marks ≡ length l.initial.reached.marks;
}
