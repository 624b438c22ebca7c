-- Rows by rising serial: which row is erased, and what is counted.
use Rattle.std.proofs.Common.{◌≡◌, ◌≤◌, ◌<◌, ◌+◌, ◌||◌, ℕ, zero, suc, List, [], ◌∷◌, ◌++◌, Bool, false, cond, refl, sym, ap, ◌∙◌, subst, eq-eqb, ne_eqb, arith, zero-add}
use Rattle.std.specs.List.{Contains, count_by, sum_by}
use Rattle.std.proofs.lemmas.List.Sums.{sum_by-append}
use Rattle.es_event.specs.declared.row.Row.{Row}
use Rattle.es_ticket.specs.Stakes.{erase, has_serial}

-- each serial is n or above, and above those before it
abbrev pub Rising : ℕ → List Row → Type 0
Rising n [] = Unit {0}
Rising n (r ∷ rs) = (n ≤ r.serial) × Rising (r.serial + 1) rs

pub from_less : (m n : ℕ) (rs : List Row) → m ≤ n → Rising n rs → Rising m rs
from_less m n [] le h = tt
from_less m n (r ∷ rs) le h = ((let a = h.0 in omega arith), h.1)

above_middle : (n : ℕ) (xs ys : List Row) (r : Row) → Rising n (xs ++ r ∷ ys) → n ≤ r.serial
above_middle n [] ys r h = h.0
above_middle n (x ∷ xs) ys r h = let a = above_middle (x.serial + 1) xs ys r h.1 in let b = h.0 in omega arith

absent_above : (n s : ℕ) (rs : List Row) → s < n → Rising n rs → has_serial s rs ≡ false
absent_above n s [] less h = refl
absent_above n s (r ∷ rs) less h =
    ap (λ t. t || has_serial s rs) (ne_eqb r.serial s (λ e. let a = h.0 in omega arith)) ∙ absent_above (r.serial + 1) s rs (let a = h.0 in omega arith) h.1

-- a row in the middle is the one of its serial
pub absent : (n : ℕ) (xs ys : List Row) (r : Row) → Rising n (xs ++ r ∷ ys) → has_serial r.serial (xs ++ ys) ≡ false
absent n [] ys r h = absent_above (r.serial + 1) r.serial ys (omega arith) h.1
absent n (x ∷ xs) ys r h =
    let a = above_middle (x.serial + 1) xs ys r h.1 in
    ap (λ t. t || has_serial r.serial (xs ++ ys)) (ne_eqb x.serial r.serial (λ e. omega arith)) ∙ absent (x.serial + 1) xs ys r h.1

pub erase_middle : (n : ℕ) (xs ys : List Row) (r : Row) → Rising n (xs ++ r ∷ ys) → erase r.serial (xs ++ r ∷ ys) ≡ xs ++ ys
erase_middle n [] ys r h = ap (λ t. cond t ys (r ∷ erase r.serial ys)) (eq-eqb r.serial r.serial refl)
erase_middle n (x ∷ xs) ys r h =
    let a = above_middle (x.serial + 1) xs ys r h.1 in
    ap (λ t. cond t (xs ++ r ∷ ys) (x ∷ erase r.serial (xs ++ r ∷ ys))) (ne_eqb x.serial r.serial (λ e. omega arith)) ∙ ap (λ l. x ∷ l) (erase_middle (x.serial + 1) xs ys r h.1)

pub count_middle : (p : Row → Bool) (xs ys : List Row) (r : Row) → count_by p (xs ++ r ∷ ys) ≡ count_by p (xs ++ ys) + cond (p r) 1 0
count_middle p xs ys r =
    let f : Row → ℕ = λ x. cond (p x) 1 0 in
    let a = sum_by-append f xs (r ∷ ys) in
    let b = sum_by-append f (r ∷ []) ys in
    let c = sum_by-append f xs ys in
    let d : sum_by f (r ∷ []) ≡ cond (p r) 1 0 = zero-add (cond (p r) 1 0) in
    omega (arith, a, b, c, d)

pub contains_middle : (xs ys : List Row) (r : Row) → Contains (xs ++ r ∷ ys) r
contains_middle [] ys r = (0, (omega arith), refl)
contains_middle (x ∷ xs) ys r = let c = contains_middle xs ys r in (suc c.0, (let h = c.1 in omega arith), c.2)

pub contains_split : (rs : List Row) (r : Row) → Contains rs r → (xs : List Row) × (ys : List Row) × (rs ≡ xs ++ r ∷ ys)
contains_split [] r c = let h = c.1 in absurd (omega arith)
contains_split (x ∷ xs) r (zero, h, e) = ([], xs, ap (λ y. y ∷ xs) e)
contains_split (x ∷ xs) r (suc k, h, e) = let s = contains_split xs r (k, (omega arith), e) in (x ∷ s.0, s.1, ap (λ l. x ∷ l) s.2)

-- the same fact of equal lists and rows
pub contains_same : (l m : List Row) (r s : Row) → l ≡ m → r ≡ s → Contains m s → Contains l r
contains_same l m r s e f c = subst (λ (x : Row). Contains l x) (sym f) (subst (λ (y : List Row). Contains y s) (sym e) c)
