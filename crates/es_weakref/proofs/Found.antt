-- The word `found` is the map's look-up.
use Rattle.std.proofs.Common.{◌≡◌, ℕ, Bool, not, ◌&&◌, nat_eq, List, [], ◌∷◌, Some, None, filter, refl, sym, ◌∙◌, arith, if◌then◌else◌, eq-eqb}
use Rattle.std.proofs.lemmas.Bool.Decides.{nat_tests}
use Rattle.std.proofs.lemmas.Map.{lookup-none}
use Rattle.std.proofs.lemmas.Map.Entries.{none_past_head}
use Rattle.std.specs.Cmp.{nat_eq_equiv}
use Rattle.std.specs.List.{IsDistinct}
use Rattle.std.specs.Map.{lookup, keys_of}
use Rattle.std.specs.Option.{option_and_then}
use Rattle.es_weakref.specs.WeakRefs.{found}

pub found_is_lookup : (es : List (ℕ × ℕ)) (v : ℕ) → found es v ≡ lookup (nat_eq v) es
found_is_lookup [] v = refl
found_is_lookup (e ∷ es) v = let h : found es v ≡ lookup (nat_eq v) es = found_is_lookup es v in grind (arith, nat_tests, h)

-- a key stands once
found_past : (e : ℕ × ℕ) (es : List (ℕ × ℕ)) (v : ℕ) → IsDistinct nat_eq (keys_of (e ∷ es)) → e.0 ≡ v → found es v ≡ None
found_past e es v apart same =
    found_is_lookup es v ∙ lookup-none (nat_eq v) es (none_past_head nat_eq_equiv v e es apart (eq-eqb v e.0 (sym same)))

distinct_tail : (e : ℕ × ℕ) (es : List (ℕ × ℕ)) → IsDistinct nat_eq (keys_of (e ∷ es)) → IsDistinct nat_eq (keys_of es)
unfolding IsDistinct
distinct_tail e es apart = apart.1

-- neither the key nor the value of an entry passes the test
abbrev pub fails_at : (ℕ → Bool) → ℕ × ℕ → Bool
fails_at test e = not (test e.0) && not (test e.1)

-- what is found where the entries are left out whose key or value passes a test
pub found_kept : (test : ℕ → Bool) (es : List (ℕ × ℕ)) (v : ℕ) → IsDistinct nat_eq (keys_of es)
    → found (filter (fails_at test) es) v ≡ (if test v then None else option_and_then (λ t. if test t then None else Some t) (found es v))
found_kept test [] v apart = grind arith
found_kept test (e ∷ es) v apart =
    let rest : found (filter (fails_at test) es) v ≡ (if test v then None else option_and_then (λ t. if test t then None else Some t) (found es v)) = found_kept test es v (distinct_tail e es apart) in
    let none : e.0 ≡ v → found es v ≡ None = found_past e es v apart in
    grind (arith, nat_tests, rest, none)
