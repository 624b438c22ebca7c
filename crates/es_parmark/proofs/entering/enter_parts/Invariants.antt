use Rattle.std.proofs.Common.{◌≡◌, take, length}
use Rattle.std.specs.List.{flat_map}
use Rattle.es_mark.specs.Steps.{IsStep}
use Rattle.es_parmark.specs.Pairs.{HasPairs}
use Rattle.es_parmark.proofs.entering.enter_parts.Given as goal

abbrev pub invariant-loop-part : goal.invariant-loop-part
invariant-loop-part l = record {
  step : IsStep (HasPairs (flat_map (λ p. p.pairs.items) (take l.part-index l.parts))) l.initial.reached.order.items l.initial.waiting l.reached.order.items l.waiting;
  room : length l.reached.marks ≡ length l.initial.reached.marks;
}
