-- What a caller cites: the records under a key that are listed are those that their holders have, where no holder stands twice; and who the holders are.
use Rattle.std.proofs.Common.{◌≡◌, ℕ, zero, suc, ◌<◌, ◌==◌, ◌||◌, Bool, true, false, cond, nat_eq, List, [], ◌∷◌, length, slice_index_or, Option, Some, None, refl, ◌∙◌, ap, sym, subst, arith}
use Rattle.std.proofs.lemmas.Bool.{eq-eqb, eqb-true}
use Rattle.std.proofs.lemmas.Bool.Decides.{nat_tests}
use Rattle.std.specs.List.{AllByRecursion, Contains, IsDistinct}
use Rattle.std.specs.Prelude.{is_some}
use Rattle.es_value.specs.Ids.{is_in}
use Rattle.es_ephemeron.specs.Ephemerons.{Records, holders, held_by, records_at, record_at}

distinct_parts : {V : Type 0} (r : ℕ × V) (rs : Records V) → IsDistinct nat_eq (holders (r ∷ rs)) → AllByRecursion (λ m. nat_eq r.0 m ≡ false) (holders rs) × IsDistinct nat_eq (holders rs)
unfolding IsDistinct
distinct_parts r rs distinct = distinct

none_among : {V : Type 0} (m : ℕ) (rs : Records V) → AllByRecursion (λ n. nat_eq m n ≡ false) (holders rs) → held_by rs m ≡ None
none_among m [] apart = refl
none_among m (r ∷ rs) apart =
    let other : nat_eq m r.0 ≡ false = apart.0 in
    let rest : held_by rs m ≡ None = none_among m rs apart.1 in
    grind (arith, nat_tests, other, rest)

-- what is held by a holder further on is held by no earlier one
held_past : {V : Type 0} (r : ℕ × V) (rs : Records V) → IsDistinct nat_eq (holders (r ∷ rs)) → (m : ℕ) (v : V) → held_by rs m ≡ Some v → held_by (r ∷ rs) m ≡ Some v
held_past r rs distinct m v e =
    let none : held_by rs r.0 ≡ None = none_among r.0 rs (distinct_parts r rs distinct).0 in
    let same : r.0 ≡ m → held_by rs r.0 ≡ held_by rs m = ap (held_by rs) in
    grind (arith, nat_tests, none, same, e)

held_first : {V : Type 0} (r : ℕ × V) (rs : Records V) → held_by (r ∷ rs) r.0 ≡ Some r.1
held_first r rs = ap (λ b. cond b (Some r.1) (held_by rs r.0)) (eq-eqb r.0 r.0 refl)

here_or_later : {V : Type 0} (b : Bool) (u v : V) (rest : Option V) (X : Type 0) → (b ≡ true → u ≡ v → X) → (rest ≡ Some v → X) → cond b (Some u) rest ≡ Some v → X
here_or_later true u v rest X here later e = here refl cc
here_or_later false u v rest X here later e = later e

all_of_held : {V : Type 0} (P : ℕ → V → Type 0) (rs : Records V) → IsDistinct nat_eq (holders rs) → ((m : ℕ) (v : V) → held_by rs m ≡ Some v → P m v) → AllByRecursion (λ r. P r.0 r.1) rs
all_of_held P [] distinct has = tt
all_of_held P (r ∷ rs) distinct has =
    (has r.0 r.1 (held_first r rs), all_of_held P rs (distinct_parts r rs distinct).1 (λ m v e. has m v (held_past r rs distinct m v e)))

held_of_all : {V : Type 0} (P : ℕ → V → Type 0) (rs : Records V) → AllByRecursion (λ r. P r.0 r.1) rs → (m : ℕ) (v : V) → held_by rs m ≡ Some v → P m v
held_of_all P [] all m v e = cc
held_of_all P (r ∷ rs) all m v e =
    here_or_later (nat_eq r.0 m) r.1 v (held_by rs m) (P m v)
    (λ same u. subst (λ w. P m w) u (subst (λ n. P n r.1) (eqb-true r.0 m same) all.0))
    (held_of_all P rs all.1 m v) e

-- a fact holds of each record that is listed exactly where it holds of each that a holder has
module _ {V : Type 0} (P : ℕ → V → Type 0) (all : List (Records V)) (k : ℕ) where
  pub all_records-from_each : IsDistinct nat_eq (holders (records_at all k)) → ((m : ℕ) (v : V) → record_at all m k ≡ Some v → P m v) → AllByRecursion (λ r. P r.0 r.1) (records_at all k)
  all_records-from_each distinct has = all_of_held P (records_at all k) distinct has

  pub each-from_all_records : AllByRecursion (λ r. P r.0 r.1) (records_at all k) → (m : ℕ) (v : V) → record_at all m k ≡ Some v → P m v
  each-from_all_records of_all m v e = held_of_all P (records_at all k) of_all m v e

-- a record is listed exactly where its holder has it
listed_past : {V : Type 0} (r : ℕ × V) (rs : Records V) (q : ℕ × V) → Contains rs q → Contains (r ∷ rs) q
listed_past r rs q (i, within, is) = (suc i, omega (arith, within), is)

all_listed : {V : Type 0} (rs : Records V) → (m : ℕ) (v : V) → held_by rs m ≡ Some v → Contains rs (m, v)
all_listed [] m v e = cc
all_listed (r ∷ rs) m v e =
    here_or_later (nat_eq r.0 m) r.1 v (held_by rs m) (Contains (r ∷ rs) (m, v))
    (λ same u. (zero, omega arith, ap (λ n. (n, r.1)) (eqb-true r.0 m same) ∙ ap (λ w. (m, w)) u))
    (λ rest. listed_past r rs (m, v) (all_listed rs m v rest)) e

held_listed : {V : Type 0} (rs : Records V) → IsDistinct nat_eq (holders rs) → (m : ℕ) (v : V) (i : ℕ) → i < length rs → slice_index_or rs i (m, v) ≡ (m, v) → held_by rs m ≡ Some v
held_listed [] distinct m v i within is = absurd (omega (arith, within))
held_listed (r ∷ rs) distinct m v zero within is =
    ap (held_by (r ∷ rs)) (sym (ap (λ q. q.0) is)) ∙ held_first r rs ∙ ap (λ q. Some q.1) is
held_listed (r ∷ rs) distinct m v (suc i) within is =
    held_past r rs distinct m v (held_listed rs (distinct_parts r rs distinct).1 m v i (omega (arith, within)) is)

module _ {V : Type 0} (all : List (Records V)) (k m : ℕ) (v : V) where
  pub listed-from_record : record_at all m k ≡ Some v → Contains (records_at all k) (m, v)
  listed-from_record e = all_listed (records_at all k) m v e

  pub record-from_listed : IsDistinct nat_eq (holders (records_at all k)) → Contains (records_at all k) (m, v) → record_at all m k ≡ Some v
  record-from_listed distinct (i, within, is) = held_listed (records_at all k) distinct m v i within is

-- what has a record is one of the holders

some_chosen : {V : Type 0} (b : Bool) (v : V) (o : Option V) (c : Bool) → is_some o ≡ c → is_some (cond b (Some v) o) ≡ (b || c)
some_chosen true v o c e = refl
some_chosen false v o c e = e

holding : {V : Type 0} (rs : Records V) (m : ℕ) → is_some (held_by rs m) ≡ is_in (holders rs) m
holding [] m = refl
holding (r ∷ rs) m = some_chosen (r.0 == m) r.1 (held_by rs m) (is_in (holders rs) m) (holding rs m)

pub recorded_is_holder : {V : Type 0} (all : List (Records V)) (m k : ℕ) → is_some (record_at all m k) ≡ is_in (holders (records_at all k)) m
recorded_is_holder all m k = holding (records_at all k) m
