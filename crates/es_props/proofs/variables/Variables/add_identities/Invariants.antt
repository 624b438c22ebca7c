use Rattle.std.proofs.Common.{◌≡◌, ◌++◌}
use Rattle.es_props.proofs.Held.{identities}
use Rattle.es_props.proofs.variables.Variables.add_identities.Given as goal

abbrev pub invariant-loop-value : goal.invariant-loop-value
invariant-loop-value l = l.found.items ++ identities l.value-iterator ≡ l.initial.found.items ++ identities l.self.entries
