-- What clocks say of what agents know, after one more event; and that nobody knows of an access before it.
use Rattle.std.proofs.Common.{◌≡◌, ℕ, ◌+◌, ◌<◌, ◌≤◌, ◌==◌, ◌&&◌, ◌||◌, max, Bool, true, false, cond, sym, ◌∙◌, ap, refl, arith, List, [], ◌∷◌, ◌++◌, drop, length, map, Option, Some, None, is_some}
use Rattle.std.specs.Prelude.{nat_lt, slice_get}
use Rattle.std.specs.Option.{option_and_then}
use Rattle.std.specs.List.{list_any}
use Rattle.std.proofs.lemmas.Bool.{or_from, or_parts, and_left, and_right, eqb-true, ltb-false, ne_eqb}
use Rattle.std.proofs.lemmas.Bool.Decides.{nat_tests}
use Rattle.std.proofs.lemmas.List.Folds.{list_any-append}
use Rattle.std.proofs.lemmas.List.Sums.{sum_by-append, sum_by-cons}
use Rattle.es_event.specs.declared.ledger_event.Body.{Body}
use Rattle.es_event.specs.declared.ledger_event.LedgerEvent.{LedgerEvent}
use Rattle.es_event.specs.declared.ledger_event.LedgerEvent.TheVariants.{Posted, Taken, Accessed, Drained}
use Rattle.es_event.specs.declared.row.Row.{Row}
use Rattle.es_event.specs.Ledger.{Ledger, holder_of, is_at, serial_in}
use Rattle.es_laws.specs.Memory.{WordAccess, access_by, accessed, accesses}
use Rattle.es_laws.specs.Races.{Known, Mark, first_of, is_mark, known, mark_of, marked, marked_after, marks_of}
use Rattle.es_races.specs.declared.ports.Message.{Message}
use Rattle.es_races.specs.Pass.{Carry, Has, count_in, made_by, raise_if}

-- Clocks

any_of_both : (f : Mark → Bool) (xs ys : List Mark) (a b c : Bool) → list_any f xs ≡ a → list_any f ys ≡ b → (a || b) ≡ c → list_any f (xs ++ ys) ≡ c
any_of_both f xs ys a b c x y both = list_any-append f xs ys ∙ ap (λ t. t || list_any f ys) x ∙ ap (λ t. a || t) y ∙ both

-- an agent knows what another knew as well
pub joined : (c d e : ℕ → ℕ) (ks ms : List Mark) → Has c ms → Has d ks → ((j : ℕ) → j < 8 → e j ≡ max (c j) (d j)) → Has e (ks ++ ms)
joined c d e ks ms has other most = λ j n few.
    let is = most j few in
    any_of_both (is_mark (j, n)) ks ms (nat_lt n (d j)) (nat_lt n (c j)) (nat_lt n (e j)) (other j n few) (has j n few) (grind (arith, nat_tests))

-- or one more access of its own
pub raised : (c d : ℕ → ℕ) (a k : ℕ) (ms : List Mark) → Has c ms → c a ≡ k → ((j : ℕ) → j < 8 → d j ≡ raise_if (a == j) (c a + 1) (c j)) → Has d ((a, k) ∷ ms)
raised c d a k ms has own one = λ j n few. ap (λ t. ((j == a) && (n == k)) || t) (has j n few) ∙ case_of j n (a == j) refl (one j few)
  where
    case_of : (j n : ℕ) (b : Bool) → (a == j) ≡ b → d j ≡ raise_if b (c a + 1) (c j) → (((j == a) && (n == k)) || nat_lt n (c j)) ≡ nat_lt n (d j)
    case_of j n true at is =
        let same : c j ≡ c a = ap c (sym (eqb-true a j at)) in
        grind (arith, nat_tests)
    case_of j n false at is = grind (arith, nat_tests)

-- the same, where the clock says the same
pub has_same : (c d : ℕ → ℕ) (ms : List Mark) → Has c ms → ((j : ℕ) → d j ≡ c j) → Has d ms
has_same c d ms has same = λ j n few. has j n few ∙ ap (nat_lt n) (sym (same j))

-- Messages

pub carry_last : (m : Message) (k : List Mark) (b : Body) {ms : List Message} {ks : List (List Mark)} {bs : List Body} → Carry ms ks bs → Has (count_in m.clock) k → m.serial ≡ serial_in b → Carry (ms ++ m ∷ []) (ks ++ k ∷ []) (bs ++ b ∷ [])
carry_last m k b Carry.none has is = Carry.more has is Carry.none
carry_last m k b (Carry.more h s rest) has is = Carry.more h s (carry_last m k b rest has is)

pub carry_rest : {ms : List Message} {ks : List (List Mark)} {bs : List Body} → Carry ms ks bs → Carry (drop 1 ms) (drop 1 ks) (drop 1 bs)
carry_rest Carry.none = Carry.none
carry_rest (Carry.more h s rest) = rest

-- what the oldest message of a port is, if there is one
abbrev pub IsFirst : Option Message → List (List Mark) → Option Body → Type 0
IsFirst None ks b = (first_of ks ≡ []) × (b ≡ None)
IsFirst (Some m) ks b = Has (count_in m.clock) (first_of ks) × (m.serial ≡ option_and_then serial_in b) × (is_some b ≡ true)

pub carry_first : {ms : List Message} {ks : List (List Mark)} {bs : List Body} → Carry ms ks bs → IsFirst (slice_get ms 0) ks (slice_get bs 0)
carry_first Carry.none = (refl, refl)
carry_first (Carry.more h s rest) = (h, s, refl)

-- Before an access

-- nobody knows of access n of agent i
pub record Unheard (i n : ℕ) (k : Known) : Type 0 where
  pub knows : (a : ℕ) → list_any (is_mark (i, n)) (k.knows a) ≡ false
  pub carried : (s r : ℕ) → list_any (list_any (is_mark (i, n))) (k.carried s r) ≡ false

first_unheard : (f : Mark → Bool) (ks : List (List Mark)) → list_any (list_any f) ks ≡ false → list_any f (first_of ks) ≡ false
first_unheard f [] none = refl
first_unheard f (k ∷ ks) none = (or_parts (list_any f k) (list_any (list_any f) ks) none).0

rest_unheard : (f : List Mark → Bool) (ks : List (List Mark)) → list_any f ks ≡ false → list_any f (drop 1 ks) ≡ false
rest_unheard f [] none = refl
rest_unheard f (k ∷ ks) none = (or_parts (f k) (list_any f ks) none).1

either : {A : Type 0} (f : List A → Bool) (b : Bool) (xs ys : List A) → f xs ≡ false → f ys ≡ false → f (cond b xs ys) ≡ false
either f true xs ys x y = x
either f false xs ys x y = y

both_unheard : {A : Type 0} (f : A → Bool) (xs ys : List A) → list_any f xs ≡ false → list_any f ys ≡ false → list_any f (xs ++ ys) ≡ false
both_unheard f xs ys x y = list_any-append f xs ys ∙ or_from (list_any f xs) (list_any f ys) x y

pub made_more : (i : ℕ) (xs earlier : List WordAccess) → made_by i (xs ++ earlier) ≡ made_by i xs + made_by i earlier
made_more i xs earlier = sum_by-append (λ y. if' y) xs earlier
  where
    if' : WordAccess → ℕ
    if' y = cond (y.agent == i) 1 0

pub made_one : (i : ℕ) (x : WordAccess) (xs : List WordAccess) → made_by i (x ∷ xs) ≡ cond (x.agent == i) 1 0 + made_by i xs
made_one i x xs = sum_by-cons (λ y. cond (y.agent == i) 1 0) x xs

new_unheard : (i n a : ℕ) (xs earlier : List WordAccess) → made_by i (xs ++ earlier) ≤ n → list_any (is_mark (i, n)) (marks_of a earlier xs) ≡ false
new_unheard i n a [] earlier few = refl
new_unheard i n a (x ∷ xs) earlier few =
    let one = made_one i x (xs ++ earlier) in
    let both = made_more i xs earlier in
    let fewer : made_by i (xs ++ earlier) ≤ n = omega (arith, one, few) in
    either (list_any (is_mark (i, n))) (x.agent == a) (mark_of earlier x ∷ marks_of a earlier xs) (marks_of a earlier xs)
    (or_from (is_mark (i, n) (mark_of earlier x)) _ (this (x.agent == i) refl) (new_unheard i n a xs earlier fewer)) (new_unheard i n a xs earlier fewer)
  where
    this : (b : Bool) → (x.agent == i) ≡ b → is_mark (i, n) (mark_of earlier x) ≡ false
    this true is =
        let one = made_one i x (xs ++ earlier) in
        let both = made_more i xs earlier in
        let counted : ◌≡◌ {A = ℕ} (cond (x.agent == i) 1 0) 1 = ap (λ b. cond {A = ℕ} b 1 0) is in
        let same : made_by x.agent earlier ≡ made_by i earlier = ap (λ a. made_by a earlier) (eqb-true x.agent i is) in
        and_right (i == x.agent) (n == made_by x.agent earlier) (ne_eqb n (made_by x.agent earlier) (λ e. omega (arith, e, few, one, both, counted, same)))
    this false is = and_left (i == x.agent) (n == made_by x.agent earlier) (let other : (i == x.agent) ≡ false = grind (arith, nat_tests) in other)

unheard_next : (e : LedgerEvent) (l : Ledger) (i n : ℕ) → made_by i (accesses (e ∷ l)) ≤ n → Unheard i n (known l) → Unheard i n (known (e ∷ l))
unheard_next (Posted t u m) l i n few not_yet = record {
  knows = not_yet.knows;
  carried = λ s r. either (list_any (list_any (is_mark (i, n)))) (is_at s r t u) ((known l).carried s r ++ (known l).knows s ∷ []) ((known l).carried s r)
      (both_unheard (list_any (is_mark (i, n))) ((known l).carried s r) ((known l).knows s ∷ []) (not_yet.carried s r) (or_from _ _ (not_yet.knows s) refl)) (not_yet.carried s r);
}
unheard_next (Taken t u) l i n few not_yet = record {
  knows = λ a. either (list_any (is_mark (i, n))) (u == a) (first_of ((known l).carried t u) ++ (known l).knows a) ((known l).knows a)
      (both_unheard (is_mark (i, n)) (first_of ((known l).carried t u)) ((known l).knows a) (first_unheard (is_mark (i, n)) ((known l).carried t u) (not_yet.carried t u)) (not_yet.knows a)) (not_yet.knows a);
  carried = λ s r. either (list_any (list_any (is_mark (i, n)))) (is_at s r t u) (drop 1 ((known l).carried s r)) ((known l).carried s r)
      (rest_unheard (list_any (is_mark (i, n))) ((known l).carried s r) (not_yet.carried s r)) (not_yet.carried s r);
}
unheard_next (Drained t u) l i n few not_yet = record {
  knows = not_yet.knows;
  carried = λ s r. either (list_any (list_any (is_mark (i, n)))) (is_at s r t u) (drop 1 ((known l).carried s r)) ((known l).carried s r)
      (rest_unheard (list_any (is_mark (i, n))) ((known l).carried s r) (not_yet.carried s r)) (not_yet.carried s r);
}
unheard_next (Accessed s j m old) l i n few not_yet = record {
  knows = λ a. both_unheard (is_mark (i, n)) (marks_of a (accesses l) (accessed l (Accessed s j m old))) ((known l).knows a) (new_unheard i n a (accessed l (Accessed s j m old)) (accesses l) few) (not_yet.knows a);
  carried = not_yet.carried;
}
unheard_next _ l i n few not_yet = record { knows = not_yet.knows; carried = not_yet.carried }

fewer_before : (i n : ℕ) (xs earlier : List WordAccess) → made_by i (xs ++ earlier) ≤ n → made_by i earlier ≤ n
fewer_before i n xs earlier few = let both = made_more i xs earlier in omega (arith, few, both)

unheard : (l : Ledger) (i n : ℕ) → made_by i (accesses l) ≤ n → Unheard i n (known l)
unheard [] i n few = record { knows = λ a. refl; carried = λ s r. refl }
unheard (e ∷ l) i n few = unheard_next e l i n few (unheard l i n (fewer_before i n (accessed l e) (accesses l) few))

-- so no message tells an agent more of itself than it did
pub told_less : (l : Ledger) (a s r : ℕ) (c : ℕ → ℕ) → a < 8 → Has c (first_of ((known l).carried s r)) → c a ≤ made_by a (accesses l)
told_less l a s r c few has =
    let none = first_unheard (is_mark (a, made_by a (accesses l))) ((known l).carried s r) ((unheard l a (made_by a (accesses l)) (omega arith)).carried s r) in
    ltb-false (made_by a (accesses l)) (c a) (sym (has a (made_by a (accesses l)) few) ∙ none)

-- nor did the agent of any access before
pub none_knew : (l : Ledger) (i n : ℕ) → made_by i (accesses l) ≤ n → list_any (λ y. list_any (is_mark (i, n)) y.knew) (marked l) ≡ false
none_knew [] i n few = refl
none_knew (e ∷ l) i n few =
    let before = fewer_before i n (accessed l e) (accesses l) few in
    both_unheard (λ y. list_any (is_mark (i, n)) y.knew) (map (marked_after l) (accessed l e)) (marked l) (new_ones (accessed l e) before) (none_knew l i n before)
  where
    new_ones : (xs : List WordAccess) → made_by i (accesses l) ≤ n → list_any (λ y. list_any (is_mark (i, n)) y.knew) (map (marked_after l) xs) ≡ false
    new_ones [] before = refl
    new_ones (x ∷ xs) before = or_from (list_any (is_mark (i, n)) ((known l).knows x.agent)) _ ((unheard l i n before).knows x.agent) (new_ones xs before)

one_made : (i : ℕ) (l : Ledger) (e : LedgerEvent) → made_by i (accessed l e) ≤ 1
one_made i l (Accessed s j m w) = by_holder (holder_of l s)
  where
    by_holder : (o : Option (ℕ × Row)) → made_by i (access_by o j m w) ≤ 1
    by_holder None = omega arith
    by_holder (Some p) =
        let one = made_one i (record { agent = p.0; block = p.1.block; index = j; change = m; old = w }) [] in
        let none : ◌≡◌ {A = ℕ} (made_by i []) 0 = refl in
        grind (arith, one, none)
one_made i l _ = omega arith

-- no agent makes more accesses than there are events
pub few_made : (i : ℕ) (l : Ledger) → made_by i (accesses l) ≤ length l
few_made i [] = omega arith
few_made i (e ∷ l) =
    let both = made_more i (accessed l e) (accesses l) in
    let one = one_made i l e in
    let rest = few_made i l in
    omega (arith, both, one, rest)
