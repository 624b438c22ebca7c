-- Which two accesses race, by what the agent of the newer one knows.
use Rattle.std.proofs.Common.{◌≡◌, ◌≢◌, ℕ, ◌+◌, ◌<◌, ◌≤◌, ◌==◌, ◌&&◌, ◌||◌, not, max, Bool, true, false, sym, ◌∙◌, ap, refl, arith, List, [], ◌∷◌, ◌++◌, inl, inr, eq-eqb}
use Rattle.std.specs.List.{list_all, list_any}
use Rattle.std.proofs.lemmas.Bool.{and_parts, and_from, and_left, and_right, or_left, or_right, or_parts, eqb-true, lt-ltb, le-ltb, cases_Bool, ne_eqb, not_from_false, not_from_true, not-true}
use Rattle.std.proofs.lemmas.Bool.Decides.{nat_tests}
use Rattle.es_laws.specs.Memory.{WordAccess, is_of, is_write}
use Rattle.es_laws.specs.Races.{Mark, MarkedAccess, conflict, happens_before, is_mark, race}
use Rattle.es_races.specs.Pass.{Has, free, highest, meets, raise_if}
use Rattle.es_races.specs.Verdict.{race_among}

-- What is among them

pub data IsIn : MarkedAccess → List MarkedAccess → Type 0 where
  here : {y : MarkedAccess} {ys : List MarkedAccess} → IsIn y (y ∷ ys)
  later : {y z : MarkedAccess} {ys : List MarkedAccess} → IsIn y ys → IsIn y (z ∷ ys)

pub any_in : (f : MarkedAccess → Bool) {y : MarkedAccess} {ys : List MarkedAccess} → IsIn y ys → f y ≡ true → list_any f ys ≡ true
any_in f {y} (here {ys = ys}) is = or_left (f y) (list_any f ys) is
any_in f (later {z = z} {ys = ys} at) is = or_right (f z) (list_any f ys) (any_in f at is)

pub none_in : (f : MarkedAccess → Bool) {y : MarkedAccess} {ys : List MarkedAccess} → IsIn y ys → list_any f ys ≡ false → f y ≡ false
none_in f {y} (here {ys = ys}) none = (or_parts (f y) (list_any f ys) none).0
none_in f (later {z = z} {ys = ys} at) none = none_in f at (or_parts (f z) (list_any f ys) none).1

all_in : (f : MarkedAccess → Bool) (ys : List MarkedAccess) → ((y : MarkedAccess) → IsIn y ys → f y ≡ true) → list_all f ys ≡ true
all_in f [] each = refl
all_in f (z ∷ ys) each = and_from (f z) (list_all f ys) (each z here) (all_in f ys (λ y at. each y (later at)))

each_in : (f : MarkedAccess → Bool) {y : MarkedAccess} {ys : List MarkedAccess} → IsIn y ys → list_all f ys ≡ true → f y ≡ true
each_in f {y} (here {ys = ys}) all = (and_parts (f y) (list_all f ys) all).0
each_in f (later {z = z} {ys = ys} at) all = each_in f at (and_parts (f z) (list_all f ys) all).1

-- The highest number

pub highest_over : (p : WordAccess → Bool) (j : ℕ) {y : MarkedAccess} {ys : List MarkedAccess} → IsIn y ys → p y.access ≡ true → y.access.agent ≡ j → y.mark.1 < highest p j ys
highest_over p j {y} (here {ys = ys}) passes by =
    let both = and_from (p y.access) (y.access.agent == j) passes (eq-eqb y.access.agent j by) in
    let top : highest p j (y ∷ ys) ≡ max (highest p j ys) (y.mark.1 + 1) = ap (λ b. raise_if b (y.mark.1 + 1) (highest p j ys)) both in
    omega (arith, top)
highest_over p j {y} (later {z = z} {ys = ys} at) passes by = case_of (p z.access && (z.access.agent == j)) (highest_over p j at passes by)
  where
    case_of : (b : Bool) → y.mark.1 < highest p j ys → y.mark.1 < raise_if b (z.mark.1 + 1) (highest p j ys)
    case_of true less = omega arith
    case_of false less = less

-- one that has it
abbrev pub HasHighest : (WordAccess → Bool) → ℕ → ℕ → List MarkedAccess → Type 0
HasHighest p j n ys = (y : MarkedAccess) × (IsIn y ys × (p y.access ≡ true) × (y.access.agent ≡ j) × (y.mark.1 ≡ n))

pub highest_there : (p : WordAccess → Bool) (j n : ℕ) (ys : List MarkedAccess) → highest p j ys ≡ n + 1 → HasHighest p j n ys
highest_there p j n [] is = absurd (omega arith)
highest_there p j n (z ∷ ys) is = case_of (highest_there p j n ys) (p z.access && (z.access.agent == j)) refl is
  where
    further : HasHighest p j n ys → HasHighest p j n (z ∷ ys)
    further h = (h.0, (later h.1.0, h.1.1, h.1.2, h.1.3))

    case_of : (highest p j ys ≡ n + 1 → HasHighest p j n ys) → (b : Bool) → (p z.access && (z.access.agent == j)) ≡ b → raise_if b (z.mark.1 + 1) (highest p j ys) ≡ n + 1 → HasHighest p j n (z ∷ ys)
    case_of rest false at is = further (rest is)
    case_of rest true at is = elim (cases_Bool (highest p j ys == n + 1)) [
      | inl e ↦ further (rest (eqb-true (highest p j ys) (n + 1) e))
      | inr e ↦
          let both = and_parts (p z.access) (z.access.agent == j) at in
          let this : z.mark.1 ≡ n = grind (arith, nat_tests) in
          (z, (here, both.0, eqb-true z.access.agent j both.1, this))
    ]

-- Two accesses

same_test : (a b : ℕ) → (a == b) ≡ (b == a)
same_test a b = grind (arith, nat_tests)

or_turned : (a b : Bool) → (a || b) ≡ (b || a)
or_turned true true = refl
or_turned true false = refl
or_turned false true = refl
or_turned false false = refl

turned : (x y : WordAccess) → conflict x y ≡ conflict y x
turned x y =
    ap (λ b. (b && (x.index == y.index)) && (not (x.agent == y.agent) && (is_write x || is_write y))) (same_test x.block y.block)
    ∙ ap (λ b. ((y.block == x.block) && b) && (not (x.agent == y.agent) && (is_write x || is_write y))) (same_test x.index y.index)
    ∙ ap (λ b. is_of x.block x.index y && (not b && (is_write x || is_write y))) (same_test x.agent y.agent)
    ∙ ap (λ b. is_of x.block x.index y && (not (y.agent == x.agent) && b)) (or_turned (is_write x) (is_write y))

-- those that conflict with an access are those that it meets, by other agents
pub conflict_parts : (x y : WordAccess) → conflict y x ≡ true → (meets (is_write x) x.block x.index y ≡ true) × (x.agent ≢ y.agent)
conflict_parts x y is =
    let at = and_parts (is_of x.block x.index y) (not (y.agent == x.agent) && (is_write y || is_write x)) is in
    let rest = and_parts (not (y.agent == x.agent)) (is_write y || is_write x) at.1 in
    let differ : (y.agent == x.agent) ≡ false = not-true (y.agent == x.agent) rest.0 in
    (and_from (is_write x || is_write y) (is_of x.block x.index y) (or_turned (is_write x) (is_write y) ∙ rest.1) at.0, λ e. grind (arith, nat_tests))

pub conflict_from : (x y : WordAccess) → meets (is_write x) x.block x.index y ≡ true → x.agent ≢ y.agent → conflict y x ≡ true
conflict_from x y is differ =
    let at = and_parts (is_write x || is_write y) (is_of x.block x.index y) is in
    let others : (y.agent == x.agent) ≡ false = ne_eqb y.agent x.agent (λ e. differ (sym e)) in
    and_from (is_of x.block x.index y) (not (y.agent == x.agent) && (is_write y || is_write x)) at.1
    (and_from (not (y.agent == x.agent)) (is_write y || is_write x) (not_from_false (y.agent == x.agent) others) (or_turned (is_write y) (is_write x) ∙ at.0))

abbrev pub DoNotRace : MarkedAccess → MarkedAccess → Type 0
DoNotRace x y = (not (race x y) ≡ true) × (not (race y x) ≡ true)

-- one that is known races in neither order
apart : (x y : MarkedAccess) → (conflict y.access x.access ≡ true → happens_before y x ≡ true) → DoNotRace x y
apart x y known = case_of (conflict y.access x.access) refl (happens_before y x) refl
  where
    neither : (a : Bool) → not (a && false) ≡ true
    neither true = refl
    neither false = refl

    case_of : (c : Bool) → conflict y.access x.access ≡ c → (h : Bool) → happens_before y x ≡ h → DoNotRace x y
    case_of false is h at =
        let is' = turned x.access y.access ∙ is in
        (not_from_false (race x y) (and_left (conflict x.access y.access) _ is'), not_from_false (race y x) (and_left (conflict y.access x.access) _ is))
    case_of true is true at =
        (not_from_false (race x y) (and_right (conflict x.access y.access) _ (not_from_true _ (or_right (happens_before x y) _ at))), not_from_false (race y x) (and_right (conflict y.access x.access) _ (not_from_true _ (or_left (happens_before y x) _ at))))
    case_of true is false at = let yes = known is in absurd (cc)

itself : (x : MarkedAccess) → not (race x x) ≡ true
itself x =
    let same : not (x.access.agent == x.access.agent) ≡ false = not_from_true _ (eq-eqb x.access.agent x.access.agent refl) in
    not_from_false (race x x) (and_left (conflict x.access x.access) _ (and_right (is_of x.access.block x.access.index x.access) _ (and_left (not (x.access.agent == x.access.agent)) _ same)))

-- One more access

-- the mark of each is of its agent, which is one of eight
pub record IsMarked (y : MarkedAccess) : Type 0 where
  pub own : y.mark.0 ≡ y.access.agent
  pub few : y.access.agent < 8

abbrev pub AllMarked : List MarkedAccess → Type 0
AllMarked ys = (y : MarkedAccess) → IsIn y ys → IsMarked y

-- its agent knows of all others with which it conflicts
pub free_more : (x : MarkedAccess) (ys : List MarkedAccess) (c : ℕ → ℕ) → Has c x.knew → AllMarked ys → ((j : ℕ) → j < 8 → x.access.agent ≢ j → highest (meets (is_write x.access) x.access.block x.access.index) j ys ≤ c j)
    → free ys ≡ true → free (x ∷ ys) ≡ true
free_more x ys c knows all known before =
    and_from _ _ (and_from _ _ (itself x) (all_in (λ y. not (race x y)) ys (λ y at. (each y at).0)))
    (all_in (λ z. list_all (λ y. not (race z y)) (x ∷ ys)) ys (λ y at. and_from _ _ (each y at).1 (each_in (λ z. list_all (λ y. not (race z y)) ys) at before)))
  where
    each : (y : MarkedAccess) → IsIn y ys → DoNotRace x y
    each y at = apart x y (λ is.
        let parts = conflict_parts x.access y.access is in
        let marks = all y at in
        let over = highest_over (meets (is_write x.access) x.access.block x.access.index) y.access.agent at parts.0 refl in
        let least = known y.access.agent marks.few parts.1 in
        let less : y.mark.1 < c y.access.agent = omega (arith, over, least) in
        ap (λ a. list_any (is_mark (a, y.mark.1)) x.knew) marks.own ∙ knows y.access.agent y.mark.1 marks.few ∙ lt-ltb y.mark.1 (c y.access.agent) less)

-- or it races with one of which its agent does not know
pub races : (x : MarkedAccess) (ys : List MarkedAccess) (c : ℕ → ℕ) (j n : ℕ) → Has c x.knew → AllMarked ys → j < 8 → x.access.agent ≢ j
    → highest (meets (is_write x.access) x.access.block x.access.index) j ys ≡ n + 1 → c j ≤ n → list_any (λ y. list_any (is_mark x.mark) y.knew) ys ≡ false
    → race_among (x ∷ ys) (j, n) x.mark ≡ true
races x ys c j n knows all few other newest unknown unheard =
    or_left _ (race_among ys (j, n) x.mark) (and_from _ _ (marked_itself x.mark) (any_in (λ y. is_mark (j, n) y.mark && race y x) found.1.0 (and_from _ _ named racing)))
  where
    found : HasHighest (meets (is_write x.access) x.access.block x.access.index) j n ys
    found = highest_there (meets (is_write x.access) x.access.block x.access.index) j n ys newest

    marked_itself : (m : Mark) → is_mark m m ≡ true
    marked_itself m = and_from _ _ (eq-eqb m.0 m.0 refl) (eq-eqb m.1 m.1 refl)

    agent : found.0.mark.0 ≡ j
    agent = (all found.0 found.1.0).own ∙ found.1.2

    named : is_mark (j, n) found.0.mark ≡ true
    named = and_from _ _ (eq-eqb j found.0.mark.0 (sym agent)) (eq-eqb n found.0.mark.1 (sym found.1.3))

    before : happens_before found.0 x ≡ false
    before =
        ap (λ a. list_any (is_mark (a, found.0.mark.1)) x.knew) agent ∙ ap (λ k. list_any (is_mark (j, k)) x.knew) found.1.3 ∙ knows j n few ∙ le-ltb n (c j) unknown

    conflicts : conflict found.0.access x.access ≡ true
    conflicts = conflict_from x.access found.0.access found.1.1 (λ e. other (e ∙ found.1.2))

    racing : race found.0 x ≡ true
    racing = and_from _ _ conflicts (not_from_false _ (neither _ _ before (none_in (λ y. list_any (is_mark x.mark) y.knew) found.1.0 unheard)))
      where
        neither : (a b : Bool) → a ≡ false → b ≡ false → (a || b) ≡ false
        neither false false p q = refl
        neither true b p q = cc
        neither false true p q = cc

-- two that race still do when more accesses came
pub race_stays : (m n : Mark) (xs ys : List MarkedAccess) → race_among ys m n ≡ true → race_among (xs ++ ys) m n ≡ true
race_stays m n [] ys is = is
race_stays m n (x ∷ xs) ys is = or_right _ (race_among (xs ++ ys) m n) (race_stays m n xs ys is)
