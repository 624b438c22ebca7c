-- Internal: what is known of an agent's variables while its plan is gone through.
use Rattle.std.specs.Prelude.{ℕ, ◌≡◌, ◌&&◌, ◌||◌, not, List, ◌∷◌, flat_map, fold, Option, Some, None, option_map, option_to_list, slice_get}
use Rattle.std.specs.Map.{keys_of, lookup}
use Rattle.std.specs.Str.{bytes_eq}
use Rattle.es_warnings.specs.Mentions.{Mention}
use Rattle.es_warnings.specs.Warnings.{cause_of, first_mention, is_answer, is_assigned, is_given, is_in_callback, is_reading, is_used, of_variable, variables, warning}
use Rattle.es_warnings.specs.declared.variables.Known.{Known}
use Rattle.es_warnings.specs.declared.warning.Warning.{Warning}

pub record VariablesView : Type 0 where
  pub entries : List (List ℕ × Known)

-- what is known of the variable that the mention is of, once it came
abbrev pub noted : Option Known → Mention → Known
noted None m = record {
  manner = m.manner;
  place = m.place;
  is_used = not (is_answer m.manner);
  is_assigned = not (is_reading m.manner);
  is_given = not (is_reading m.manner) && is_in_callback m.place.section;
}
noted (Some k) m = record {
  manner = k.manner;
  place = k.place;
  is_used = not (is_answer m.manner) || k.is_used;
  is_assigned = not (is_reading m.manner) || k.is_assigned;
  is_given = (not (is_reading m.manner) && is_in_callback m.place.section) || k.is_given;
}

-- what is to be known of x
abbrev pub known : List Mention → List ℕ → Option Known
known past x = option_map (λ m. record { manner = m.manner; place = m.place; is_used = is_used past x; is_assigned = is_assigned past x; is_given = is_given past x }) (first_mention past x)

-- what is to be said of x, by what is known of it
abbrev pub of_known : ℕ → List ℕ → Known → Option Warning
of_known agent x k = option_map (warning agent x k.place) (cause_of k.manner k.is_used k.is_assigned k.is_given)

pub record Knows (past : List Mention) (v : VariablesView) : Type 0 where
  pub known : (x : List ℕ) → lookup (bytes_eq x) v.entries ≡ known past x
  pub names : keys_of v.entries ≡ variables past

abbrev pub after : List Mention → List Mention → List Mention
after past ms = fold (λ past m. m ∷ past) past ms

-- these mentions came
abbrev pub Notes : VariablesView → VariablesView → List Mention → Type 0
Notes old new ms = (past : List Mention) → Knows past old → Knows (after past ms) new

-- of these mentions the rest is still to come
abbrev pub Leaves : VariablesView → VariablesView → (all rest : List Mention) → Type 0
Leaves old new all rest = (past : List Mention) → Knows past old → (now : List Mention) × Knows now new × (after now rest ≡ after past all)

-- at this index there is x, of which this is known
pub record IsEntry (v : VariablesView) (index : ℕ) (x : List ℕ) (k : Known) : Type 0 where
  pub name : slice_get (keys_of v.entries) index ≡ Some x
  pub known : lookup (bytes_eq x) v.entries ≡ Some k

-- what is to be said of the variable at this index
abbrev pub of_variable_at : ℕ → List Mention → ℕ → List Warning
of_variable_at agent past index = flat_map (λ x. option_to_list (of_variable agent past x)) (option_to_list (slice_get (variables past) index))
