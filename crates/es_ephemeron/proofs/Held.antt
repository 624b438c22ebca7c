-- No holder stands twice among few records.
use Rattle.std.proofs.Common.{ℕ, nat_eq, [], ◌∷◌}
use Rattle.std.specs.List.{IsDistinct}

pub none_distinct : IsDistinct nat_eq []
unfolding IsDistinct
none_distinct = tt

pub one_distinct : (m : ℕ) → IsDistinct nat_eq (m ∷ [])
unfolding IsDistinct
one_distinct m = (tt, tt)
