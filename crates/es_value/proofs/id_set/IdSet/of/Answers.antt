use Rattle.std.proofs.lemmas.Bool.{MatchBool-at_true}
use Rattle.std.proofs.lemmas.List.Sorted.{non_decreasing_from_is_sorted}
use Rattle.es_value.proofs.id_set.IdSet.of.Goals as goal

pub invariant_of-result : goal.invariant_of-result
invariant_of-result c = λ t. MatchBool-at_true _ _ t (non_decreasing_from_is_sorted _ _ c.is_sorted.ensures.cases)
