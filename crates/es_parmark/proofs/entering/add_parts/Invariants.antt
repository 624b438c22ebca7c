use Rattle.std.proofs.Common.{◌≡◌, take, length}
use Rattle.std.specs.List.{flat_map}
use Rattle.es_mark.specs.Listed.{IsAdded}
use Rattle.es_parmark.proofs.entering.add_parts.Given as goal

abbrev pub invariant-loop-part : goal.invariant-loop-part
invariant-loop-part l = record {
  added : IsAdded (flat_map (λ p. p.ids.items) (take l.part-index l.parts)) l.initial.reached.order.items l.reached.order.items;
  room : length l.reached.marks ≡ length l.initial.reached.marks;
}
