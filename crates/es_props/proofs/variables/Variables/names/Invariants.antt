use Rattle.std.proofs.Common.{◌≡◌, ◌++◌, map}
use Rattle.es_props.proofs.variables.Variables.names.Given as goal

abbrev pub invariant-loop-name : goal.invariant-loop-name
invariant-loop-name l = map (λ e. e.0) l.self.entries ≡ l.names.items ++ map (λ e. e.0) l.name-iterator
