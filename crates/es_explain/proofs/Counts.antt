-- How many types of operands there are.
use Rattle.std.proofs.Common.{◌≡◌, List, [], ◌∷◌, length, suc, refl, ap}
use Rattle.es_explain.specs.declared.kinds.Kind.{Kind}
use Rattle.es_explain.specs.Coded.{types_of}

pub length_types : (ks : List Kind) → length (types_of ks) ≡ length ks
length_types [] = refl
length_types (k ∷ ks) = ap suc (length_types ks)
