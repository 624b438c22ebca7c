use Rattle.std.proofs.Common.{◌≡◌, ◌++◌, map}
use Rattle.es_registry.proofs.roots.add_registries.Given as goal

abbrev pub invariant-loop-registry : goal.invariant-loop-registry
invariant-loop-registry l = l.found.items ++ map (λ e. e.0) l.registry-iterator ≡ l.fn.found.items ++ map (λ e. e.0) l.callbacks.entries
