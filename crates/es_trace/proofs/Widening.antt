-- The width of a column, one name after the other.
use Rattle.std.proofs.Common.{◌≡◌, ℕ, ◌+◌, ◌<◌, ◌≤◌, sym, ◌∙◌, ap, List, length, drop, get_or}
use Rattle.std.specs.Prelude.{max}
use Rattle.std.proofs.lemmas.List.{at_drop_more, at_drop_all}
use Rattle.es_trace.specs.Columns.{widest}

pub wider_on : (names : List (List ℕ)) (i w v : ℕ) (x : List ℕ) → i < length names → x ≡ get_or names i x → v ≡ max w (length x) → widest w (drop i names) ≡ widest 1 names
    → widest v (drop (i + 1) names) ≡ widest 1 names
wider_on names i w v x within is more before =
    ap (λ n. widest n (drop (i + 1) names)) more
    ∙ ap (λ (y : List ℕ). widest (max w (length y)) (drop (i + 1) names)) is
    ∙ sym (at_drop_more (widest w) names i x within)
    ∙ before

pub widest_of : (names : List (List ℕ)) (i w : ℕ) → length names ≤ i → widest w (drop i names) ≡ widest 1 names → w ≡ widest 1 names
widest_of names i w over before = sym (at_drop_all (widest w) names i over) ∙ before
