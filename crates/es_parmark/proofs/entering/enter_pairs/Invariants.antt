use Rattle.std.proofs.Common.{◌≡◌, take, length}
use Rattle.es_mark.specs.Steps.{IsStep}
use Rattle.es_parmark.specs.Pairs.{HasPairs}
use Rattle.es_parmark.proofs.entering.enter_pairs.Given as goal

abbrev pub invariant-loop-pair : goal.invariant-loop-pair
invariant-loop-pair l = record {
  step : IsStep (HasPairs (take l.pair-index l.pairs)) l.initial.reached.order.items l.initial.waiting l.reached.order.items l.waiting;
  room : length l.reached.marks ≡ length l.initial.reached.marks;
}
