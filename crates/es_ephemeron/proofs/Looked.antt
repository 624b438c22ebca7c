-- The word `held_by` is the table's look-up.
use Rattle.std.proofs.Common.{◌≡◌, ℕ, Bool, not, nat_eq, [], ◌∷◌, None, filter, ap, refl, arith, if◌then◌else◌}
use Rattle.std.proofs.lemmas.Bool.Decides.{nat_tests}
use Rattle.std.specs.Map.{lookup}
use Rattle.es_ephemeron.specs.Ephemerons.{Records, held_by}

pub held_by_is_lookup : {V : Type 0} (es : Records V) (n : ℕ) → held_by es n ≡ lookup (nat_eq n) es
held_by_is_lookup [] n = refl
held_by_is_lookup (e ∷ es) n = let rest : held_by es n ≡ lookup (nat_eq n) es = held_by_is_lookup es n in grind (arith, nat_tests, rest)

-- what is held where the records of some holders are left out
pub held_by_kept : {V : Type 0} (test : ℕ → Bool) (es : Records V) (n : ℕ) → held_by (filter (λ e. not (test e.0)) es) n ≡ (if test n then None else held_by es n)
held_by_kept test [] n = grind arith
held_by_kept test (e ∷ es) n =
    let rest : held_by (filter (λ e. not (test e.0)) es) n ≡ (if test n then None else held_by es n) = held_by_kept test es n in
    let same : e.0 ≡ n → test e.0 ≡ test n = ap test in
    grind (arith, nat_tests, rest, same)
