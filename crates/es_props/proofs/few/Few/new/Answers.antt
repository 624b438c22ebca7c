use Rattle.std.proofs.Common.{◌≡◌, sym, ◌∙◌, ap, subst, [], ◌∷◌, ◌++◌}
use Rattle.std.specs.List.{IsDistinct}
use Rattle.std.specs.Str.{bytes_eq}
use Rattle.es_props.specs.Heap.{keys_of}
use Rattle.es_props.proofs.Held.{one_distinct}
use Rattle.es_props.proofs.few.Few.new.Goals as goal

first : (c : goal.After-push_reserved) → c.push_reserved.new.entries.items ≡ (c.in_ok-copy.field-0, c.in_ok-value.value) ∷ []
first c = c.push_reserved.ensures.items ∙ ap (λ es. es ++ (c.in_ok-copy.field-0, c.in_ok-value.value) ∷ []) c.in_ok-entries.ensures.items

pub invariant_of-result : goal.invariant_of-result
invariant_of-result c = subst (λ es. IsDistinct bytes_eq (keys_of es)) (sym (first c)) (one_distinct _)
