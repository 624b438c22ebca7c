use Rattle.es_mark.proofs.Placing.{placed_none}
use Rattle.es_mark.proofs.ways.Ways.new.Goals as goal

pub invariant_of-result : goal.invariant_of-result
invariant_of-result c = record { placed = rw (c.new.ensures.items, c.in_ok-places.ensures.items_if_clones_equal (λ y e. e)) (placed_none _) }
