use Rattle.std.proofs.Common.{◌≡◌, take}
use Rattle.es_props.specs.Heap.{keys_of}
use Rattle.es_props.proofs.few.Few.keys.Given as goal

abbrev pub invariant-loop-key : goal.invariant-loop-key
invariant-loop-key l = l.keys.items ≡ keys_of (take l.key-index l.self.entries)
