use Rattle.std.proofs.Common.{◌≡◌, ◌++◌, map, take}
use Rattle.es_value.specs.declared.value.Value.TheVariants.{Object}
use Rattle.es_parmark.proofs.snapshot.add_values.Given as goal

abbrev pub invariant-loop-pair : goal.invariant-loop-pair
invariant-loop-pair l = l.found.items ≡ l.initial.found.items ++ map (λ p. (p.0, Object p.1)) (take l.pair-index l.pairs)
