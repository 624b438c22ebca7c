-- The rows of tickets, counted: after a change of their rack, and that a row which is counted is there.
use Rattle.std.proofs.Common.{◌≡◌, ◌≤◌, ◌+◌, ◌∷◌, ◌++◌, ◌&&◌, ◌==◌, [], List, ℕ, suc, Bool, true, false, cond, refl, ap, arith, eq-eqb}
use Rattle.std.specs.List.{Contains, count_by}
use Rattle.std.proofs.lemmas.Bool.{and_from, and_parts, eqb-true}
use Rattle.std.proofs.lemmas.List.Sums.{sum_by-cons, sum_by_push}
use Rattle.es_event.specs.declared.row.Row.{Row}
use Rattle.es_ticket.specs.Owned.{Owns}

pub counted_last : (p : Row → Bool) (i : ℕ) (r : Row) (ts : List (ℕ × Row)) → count_by (λ t. p t.1) (ts ++ (i, r) ∷ []) ≡ count_by (λ t. p t.1) ts + cond (p r) 1 0
counted_last p i r ts = sum_by_push {X = ℕ × Row} (λ t. cond (p t.1) 1 0) ts (i, r)

-- the test of one row
abbrev is_row : Row → Row → Bool
is_row r x = (x.serial == r.serial) && (x.block == r.block) && (x.words == r.words)

is_itself : (r : Row) → is_row r r ≡ true
is_itself r =
    let first = and_from (r.serial == r.serial) (r.block == r.block) (eq-eqb r.serial r.serial refl) (eq-eqb r.block r.block refl) in
    and_from ((r.serial == r.serial) && (r.block == r.block)) (r.words == r.words) first (eq-eqb r.words r.words refl)

same_row : (r x : Row) → is_row r x ≡ true → x ≡ r
same_row r x h =
    let both = and_parts ((x.serial == r.serial) && (x.block == r.block)) (x.words == r.words) h in
    let first = and_parts (x.serial == r.serial) (x.block == r.block) both.0 in
    λ i. record { serial = eqb-true x.serial r.serial first.0 i; block = eqb-true x.block r.block first.1 i; words = eqb-true x.words r.words both.1 i }

counted_contains : (r : Row) (xs : List Row) → 1 ≤ count_by (is_row r) xs → Contains xs r
counted_contains r [] h = absurd (omega arith)
counted_contains r (x ∷ xs) h =
    let a = sum_by-cons (λ y. cond (is_row r y) 1 0) x xs in one (is_row r x) refl (omega (arith, a, h)) (counted_contains r xs)
  where
    one : (b : Bool) → is_row r x ≡ b → 1 ≤ cond b 1 0 + count_by (is_row r) xs → (1 ≤ count_by (is_row r) xs → Contains xs r) → Contains (x ∷ xs) r
    one true e h ih = (0, (omega arith), same_row r x e)
    one false e h ih = let c = ih (omega arith) in (suc c.0, (let l = c.1 in omega arith), c.2)

-- the last ticket's row is there
pub owned_last : (rows : List Row) (i : ℕ) (r : Row) (ts : List (ℕ × Row)) → Owns rows (ts ++ (i, r) ∷ []) → Contains rows r
owned_last rows i r ts owns =
    let a = owns (is_row r) in
    let b = counted_last (is_row r) i r ts in
    let c = ap (λ b. cond {A = ℕ} b 1 0) (is_itself r) in
    counted_contains r rows (omega (arith, a, b, c))
