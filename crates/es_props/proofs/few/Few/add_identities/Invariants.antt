use Rattle.std.proofs.Common.{◌≡◌, ◌++◌, ◌+◌, ◌≤◌, drop, length, vec_len, vec_capacity}
use Rattle.std.specs.List.{flat_map}
use Rattle.std.specs.Option.{option_to_list}
use Rattle.es_value.specs.Values.{identity}
use Rattle.es_props.proofs.few.Few.add_identities.Given as goal

abbrev pub invariant-loop-value : goal.invariant-loop-value
invariant-loop-value l = record {
  added : l.found.items ++ flat_map (λ p. option_to_list (identity p.1)) (drop l.value-index l.self.entries) ≡ l.initial.found.items ++ flat_map (λ p. option_to_list (identity p.1)) l.self.entries;
  room : vec_len l.found + length (drop l.value-index l.self.entries) ≤ vec_capacity l.found;
}
