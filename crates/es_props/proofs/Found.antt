-- What the variables add to a list is what they hold.
use Rattle.std.proofs.Common.{◌≡◌, ℕ, Bool, true, sym, ◌∙◌, ap, List, ◌++◌, Option, Some, None}
use Rattle.std.specs.Prelude.{unwrap_or}
use Rattle.std.specs.List.{IsDistinct}
use Rattle.std.specs.Map.{lookup}
use Rattle.std.specs.Str.{bytes_eq}
use Rattle.es_value.specs.declared.value.Value.{Value}
use Rattle.es_value.specs.declared.value.Value.TheVariants.{Undefined}
use Rattle.es_value.specs.Values.{identity}
use Rattle.es_props.specs.Heap.{keys_of, value_at}
use Rattle.es_props.proofs.Held.{identities, HasFound, found_of_all, all_of_found}
use Rattle.es_props.proofs.Tables.{value_at_is_lookup}
use Rattle.es_props.specs.Variables.{Adds, VariablesView, HasBound}

-- what stands in the entries is what is bound
entries_bound : (b : VariablesView) (t : ℕ → Bool) → HasFound b.entries t → HasBound b t
entries_bound b t found x i e = at_value (lookup (bytes_eq x) b.entries) (value_at_is_lookup b.entries x) e
  where
    at_value : (o : Option Value) → value_at b.entries x ≡ o → identity (unwrap_or o Undefined) ≡ Some i → t i ≡ true
    at_value None is e = cc
    at_value (Some v) is e = found x v i is e

bound_entries : (b : VariablesView) (t : ℕ → Bool) → HasBound b t → HasFound b.entries t
bound_entries b t has k v i e is = has k i (ap (λ o. identity (unwrap_or o Undefined)) (sym (value_at_is_lookup b.entries k) ∙ e) ∙ is)

pub adds_bound : (b : VariablesView) (old new : List ℕ) → IsDistinct bytes_eq (keys_of b.entries) → new ≡ old ++ identities b.entries → Adds (HasBound b) old new
adds_bound b old new distinct added = record {
  ids = identities b.entries;
  added = added;
  only = λ t has. all_of_found t b.entries distinct (bound_entries b t has);
  all = λ t all. entries_bound b t (found_of_all t b.entries all);
}
