use Rattle.std.proofs.Common.{◌≡◌, None, take}
use Rattle.es_props.specs.Heap.{value_at}
use Rattle.es_props.proofs.few.Few.place.Given as goal

abbrev pub invariant-loop-at : goal.invariant-loop-at
invariant-loop-at l = value_at (take l.at l.self.entries) l.key ≡ None
