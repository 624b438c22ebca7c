-- What one more event leaves of the tickets of one serial and one block, and which blocks one is left of.
use Rattle.std.proofs.Common.{◌≡◌, ℕ, ◌+◌, ◌<◌, ◌≤◌, ◌==◌, ◌&&◌, ◌||◌, not, Bool, true, false, cond, sym, ◌∙◌, ap, refl, arith, List, [], ◌∷◌, ◌++◌, Option, Some, None, eqb-true, append-nil}
use Rattle.std.specs.List.{count_by, range_with_len, list_any}
use Rattle.std.specs.Option.{option_map_or, option_and_then}
use Rattle.std.proofs.lemmas.Bool.{and_parts}
use Rattle.std.proofs.lemmas.Bool.Decides.{nat_tests}
use Rattle.std.proofs.lemmas.List.Folds.{list_any-append}
use Rattle.std.proofs.lemmas.List.Sums.{sum_by-cons}
use Rattle.es_event.specs.declared.ledger_event.Body.{Body}
use Rattle.es_event.specs.declared.ledger_event.Body.TheVariants.{Plain, Block}
use Rattle.es_event.specs.declared.ledger_event.LedgerEvent.{LedgerEvent}
use Rattle.es_event.specs.declared.ledger_event.LedgerEvent.TheVariants.{Opened, Posted, Taken, Spent, Accessed, Drained, Acted}
use Rattle.es_event.specs.declared.row.Row.{Row}
use Rattle.es_event.specs.declared.row.Entry.{Entry}
use Rattle.es_event.specs.declared.row.Holder.{Holder}
use Rattle.es_event.specs.declared.row.Holder.TheVariants.{Agent, Port, Nobody}
use Rattle.es_event.specs.Rows.{row, held_by, is_somebody, unspent, count_of, moved}
use Rattle.es_event.specs.Ledger.{Ledger, front, serial_in, table, opened, size, moved_if as moved_if_said, count, is_opened, is_released}
use Rattle.es_event.specs.Totals.{released}
use Rattle.es_report.proofs.Lists.{count_alike}
use Rattle.es_report.specs.declared.holding.Trace.{Trace}
use Rattle.es_report.specs.Holding.{Traced, any_of, held_of, is_of, left, makes, makes_it, makes_left, moved_by, moved_if, moved_to, with_ticket}

-- Tickets that go to another holder

any_moved : (k : ℕ) (who : Holder) (es : List Entry) (s b : ℕ) → any_of (moved k who es) s b ≡ any_of es s b
any_moved k who [] s b = refl
any_moved k who (e ∷ es) s b = by_test (e.row.serial == k) (any_moved k who es s b)
  where
    by_test : (t : Bool) → any_of (moved k who es) s b ≡ any_of es s b → any_of (cond t (held_by who e.row) e ∷ moved k who es) s b ≡ any_of (e ∷ es) s b
    by_test true rest = ap (λ o. is_of s b e || o) rest
    by_test false rest = ap (λ o. is_of s b e || o) rest

-- of one entry: w where its new holder is somebody, o where its old one is, i where it is of the serial and the block
one_of : (t u w o i a m r : Bool) → r ≡ cond u (w && a) m → (t ≡ true → u ≡ false → i ≡ false) → (t ≡ false → u ≡ true → i ≡ false)
    → ((cond t w o && i) || r) ≡ cond u (w && (i || a)) ((o && i) || m)
one_of true true true o true a m r is f g = refl
one_of true true true o false a m r is f g = is
one_of true true false o i a m r is f g = is
one_of true false w o i a m r is f g = let none : i ≡ false = f refl refl in rw none (nothing w o r m is)
  where
    nothing : (w o r m : Bool) → r ≡ m → ((w && false) || r) ≡ ((o && false) || m)
    nothing true true r m e = e
    nothing true false r m e = e
    nothing false true r m e = e
    nothing false false r m e = e
one_of false true w o i a m r is f g = let none : i ≡ false = g refl refl in rw none (nothing w o r a is)
  where
    nothing : (w o r a : Bool) → r ≡ (w && a) → ((o && false) || r) ≡ (w && (false || a))
    nothing true true r a e = e
    nothing true false r a e = e
    nothing false true r a e = e
    nothing false false r a e = e
one_of false false w o i a m r is f g = ap (λ r. (o && i) || r) is

other_serial : (x k s b c : ℕ) → (x == k) ≡ true → (k == s) ≡ false → ((x == s) && (b == c)) ≡ false
other_serial x k s b c e f = let same : x ≡ k = eqb-true x k e in ap (λ n. (n == s) && (b == c)) same ∙ ap (λ t. t && (b == c)) f

no_serial : (x k s b c : ℕ) → (x == k) ≡ false → (k == s) ≡ true → ((x == s) && (b == c)) ≡ false
no_serial x k s b c e f = let same : k ≡ s = eqb-true k s f in ap (λ n. (x == n) && (b == c)) (sym same) ∙ ap (λ t. t && (b == c)) e

held_moved : (k : ℕ) (who : Holder) (es : List Entry) (s b : ℕ) → held_of (moved k who es) s b ≡ cond (k == s) (is_somebody who && any_of es s b) (held_of es s b)
held_moved k who [] s b = nothing (k == s) (is_somebody who)
  where
    nothing : (t w : Bool) → false ≡ cond t (w && false) false
    nothing true true = refl
    nothing true false = refl
    nothing false w = refl
held_moved k who (e ∷ es) s b =
    entry (e.row.serial == k) ∙ one_of (e.row.serial == k) (k == s) (is_somebody who) (is_somebody e.holder) (is_of s b e) (any_of es s b) (held_of es s b) (held_of (moved k who es) s b) (held_moved k who es s b)
    (λ at other. other_serial e.row.serial k s e.row.block b at other) (λ at here. no_serial e.row.serial k s e.row.block b at here)
  where
    entry : (t : Bool) → held_of (cond t (held_by who e.row) e ∷ moved k who es) s b ≡ ((cond t (is_somebody who) (is_somebody e.holder) && is_of s b e) || held_of (moved k who es) s b)
    entry true = refl
    entry false = refl

-- One more ticket

or_nothing : (b : Bool) → (b || false) ≡ b
or_nothing true = refl
or_nothing false = refl

any_more : (es : List Entry) (e : Entry) (s b : ℕ) → any_of (es ++ e ∷ []) s b ≡ (any_of es s b || is_of s b e)
any_more es e s b = list_any-append (is_of s b) es (e ∷ []) ∙ ap (λ o. any_of es s b || o) (or_nothing (is_of s b e))

held_more : (es : List Entry) (e : Entry) (s b : ℕ) → is_somebody e.holder ≡ true → held_of (es ++ e ∷ []) s b ≡ (held_of es s b || is_of s b e)
held_more es e s b is =
    list_any-append (λ e. is_somebody e.holder && is_of s b e) es (e ∷ [])
    ∙ ap (λ o. held_of es s b || o) (or_nothing (is_somebody e.holder && is_of s b e) ∙ ap (λ t. t && is_of s b e) is)

-- The next event

no_more : (s b : ℕ) (l m : Ledger) (t : Trace) → table m ≡ table l → Traced s b l t → Traced s b m (with_ticket t false)
no_more s b l m t same says = record {
  any = or_nothing t.any ∙ says.any ∙ ap (λ es. any_of es s b) (sym same);
  held = or_nothing t.held ∙ says.held ∙ ap (λ es. held_of es s b) (sym same);
}

one_more : (s b : ℕ) (l m : Ledger) (t : Trace) (e : Entry) → table m ≡ table l ++ e ∷ [] → is_somebody e.holder ≡ true → Traced s b l t → Traced s b m (with_ticket t (is_of s b e))
one_more s b l m t e more is says = record {
  any = ap (λ o. o || is_of s b e) says.any ∙ sym (any_more (table l) e s b) ∙ ap (λ es. any_of es s b) (sym more);
  held = ap (λ o. o || is_of s b e) says.held ∙ sym (held_more (table l) e s b is) ∙ ap (λ es. held_of es s b) (sym more);
}

now_moved : (s b : ℕ) (l m : Ledger) (t : Trace) (k : ℕ) (who : Holder) → table m ≡ moved k who (table l) → Traced s b l t → Traced s b m (moved_to (with_ticket t false) (k == s) (is_somebody who))
now_moved s b l m t k who is says = record {
  any = or_nothing t.any ∙ says.any ∙ sym (any_moved k who (table l) s b) ∙ ap (λ es. any_of es s b) (sym is);
  held = parts (k == s) (is_somebody who) t.any t.held (any_of (table l) s b) (held_of (table l) s b) says.any says.held ∙ sym (held_moved k who (table l) s b) ∙ ap (λ es. held_of es s b) (sym is);
}
  where
    parts : (u w x y a h : Bool) → x ≡ a → y ≡ h → cond u (w && (x || false)) (y || false) ≡ cond u (w && a) h
    parts true w x y a h e f = ap (λ o. w && o) (or_nothing x ∙ e)
    parts false w x y a h e f = or_nothing y ∙ f

posted_next : (s b a r : ℕ) (m : Body) (l : Ledger) (t : Trace) → Traced s b l t → Traced s b (Posted a r m ∷ l) (with_ticket t (makes_it s b (Posted a r m)))
posted_next s b a r (Plain v) l t says = no_more s b l (Posted a r (Plain v) ∷ l) t (append-nil (table l)) says
posted_next s b a r (Block c k) l t says = one_more s b l (Posted a r (Block c k) ∷ l) t (held_by (Port a r) (row k c (size l c))) refl refl says

taken_next : (s b r a : ℕ) (l : Ledger) (t : Trace) (o : Option ℕ) → option_and_then serial_in (front l a r) ≡ o → Traced s b l t → Traced s b (Taken a r ∷ l) (moved_if (with_ticket t false) o s true)
taken_next s b r a l t None is says = no_more s b l (Taken a r ∷ l) t (ap (λ o. moved_if_said o (Agent r) (table l)) is) says
taken_next s b r a l t (Some k) is says = now_moved s b l (Taken a r ∷ l) t k (Agent r) (ap (λ o. moved_if_said o (Agent r) (table l)) is) says

pub next_traced : (s b : ℕ) (e : LedgerEvent) (l : Ledger) (t : Trace) → Traced s b l t → Traced s b (e ∷ l) (moved_by l (with_ticket t (makes_it s b e)) s e)
next_traced s b (Opened c w k a) l t says = one_more s b l (Opened c w k a ∷ l) t (held_by (Agent a) (row k c w)) refl refl says
next_traced s b (Posted a r m) l t says = posted_next s b a r m l t says
next_traced s b (Taken a r) l t says = taken_next s b r a l t (option_and_then serial_in (front l a r)) refl says
next_traced s b (Spent k) l t says = now_moved s b l (Spent k ∷ l) t k Nobody refl says
next_traced s b (Accessed k i m old) l t says = no_more s b l (Accessed k i m old ∷ l) t refl says
next_traced s b (Acted a d) l t says = no_more s b l (Acted a d ∷ l) t refl says
next_traced s b (Drained a r) l t says = no_more s b l (Drained a r ∷ l) t refl says

-- What is left

turned_or : (a b : Bool) → (a || b) ≡ (b || a)
turned_or true true = refl
turned_or true false = refl
turned_or false true = refl
turned_or false false = refl

-- there is such a ticket where some event made it
any_made : (l : Ledger) (s b : ℕ) → any_of (table l) s b ≡ list_any (makes_it s b) l
any_made [] s b = refl
any_made (e ∷ l) s b =
    let now : any_of (table (e ∷ l)) s b ≡ (any_of (table l) s b || makes_it s b e) = any_next e in
    now ∙ ap (λ o. o || makes_it s b e) (any_made l s b) ∙ turned_or (list_any (makes_it s b) l) (makes_it s b e)
  where
    posted : (a r : ℕ) (m : Body) → any_of (table (Posted a r m ∷ l)) s b ≡ (any_of (table l) s b || makes_it s b (Posted a r m))
    posted a r (Plain v) = ap (λ es. any_of es s b) (append-nil (table l)) ∙ sym (or_nothing (any_of (table l) s b))
    posted a r (Block c k) = any_more (table l) (held_by (Port a r) (row k c (size l c))) s b

    taken : (r a : ℕ) (o : Option ℕ) → any_of (moved_if_said o (Agent r) (table l)) s b ≡ (any_of (table l) s b || false)
    taken r a None = sym (or_nothing (any_of (table l) s b))
    taken r a (Some k) = any_moved k (Agent r) (table l) s b ∙ sym (or_nothing (any_of (table l) s b))

    any_next : (e : LedgerEvent) → any_of (table (e ∷ l)) s b ≡ (any_of (table l) s b || makes_it s b e)
    any_next (Opened c w k a) = any_more (table l) (held_by (Agent a) (row k c w)) s b
    any_next (Posted a r m) = posted a r m
    any_next (Taken a r) = taken r a (option_and_then serial_in (front l a r))
    any_next (Spent k) = any_moved k Nobody (table l) s b ∙ sym (or_nothing (any_of (table l) s b))
    any_next (Accessed k i m old) = sym (or_nothing (any_of (table l) s b))
    any_next (Acted a d) = sym (or_nothing (any_of (table l) s b))
    any_next (Drained a r) = sym (or_nothing (any_of (table l) s b))

-- one that passes is among them
some_of : {X : Type 0} (p : X → Bool) (xs : List X) → list_any p xs ≡ true → (x : X) × (p x ≡ true) × ((q : X → Bool) → q x ≡ true → list_any q xs ≡ true)
some_of p [] e = cc
some_of {X = X} p (x ∷ xs) e = by_test (p x) refl (λ rest. some_of p xs rest)
  where
    skip : (a : Bool) → a ≡ true → (b : Bool) → (b || a) ≡ true
    skip a is true = refl
    skip a is false = is

    by_test : (b : Bool) → p x ≡ b → (list_any p xs ≡ true → (y : X) × (p y ≡ true) × ((q : X → Bool) → q y ≡ true → list_any q xs ≡ true))
        → (y : X) × (p y ≡ true) × ((q : X → Bool) → q y ≡ true → list_any q (x ∷ xs) ≡ true)
    by_test true is others = (x, is, λ q here. ap (λ b. b || list_any q xs) here)
    by_test false is others =
        let rest : list_any p xs ≡ true = sym (ap (λ b. b || list_any p xs) is) ∙ e in
        let found = others rest in
        (found.0, found.1, λ q here. skip (list_any q xs) (found.2 q here) (q x))

same_truth : (a b : Bool) → (a ≡ true → b ≡ true) → (b ≡ true → a ≡ true) → a ≡ b
same_truth true true f g = refl
same_truth true false f g = sym (f refl)
same_truth false true f g = g refl
same_truth false false f g = refl

both_true : (a b : Bool) → a ≡ true → b ≡ true → (a && b) ≡ true
both_true true b e f = f
both_true false b e f = e

itself : (n : ℕ) → (n == n) ≡ true
itself n = grind (arith, nat_tests)

makes_held : (es : List Entry) (b : ℕ) (o : Option (ℕ × ℕ)) → option_map_or (λ (p : ℕ × ℕ). (p.1 == b) && held_of es p.0 b) o false ≡ true → (s : ℕ) × (held_of es s b ≡ true)
makes_held es b None e = cc
makes_held es b (Some p) e = (p.0, (and_parts (p.1 == b) (held_of es p.0 b) e).1)

made_it : (es : List Entry) (s b : ℕ) (o : Option (ℕ × ℕ)) → held_of es s b ≡ true → option_map_or (λ (p : ℕ × ℕ). (p.0 == s) && (p.1 == b)) o false ≡ true → option_map_or (λ (p : ℕ × ℕ). (p.1 == b) && held_of es p.0 b) o false ≡ true
made_it es s b None held e = e
made_it es s b (Some p) held e =
    let parts = and_parts (p.0 == s) (p.1 == b) e in
    let same : p.0 ≡ s = eqb-true p.0 s parts.0 in
    both_true (p.1 == b) (held_of es p.0 b) parts.1 (ap (λ n. held_of es n b) same ∙ held)

held_left : (es : List Entry) (s b : ℕ) → held_of es s b ≡ true → left es b ≡ true
held_left es s b e =
    let found = some_of (λ e. is_somebody e.holder && is_of s b e) es e in
    let parts = and_parts (is_somebody found.0.holder) (is_of s b found.0) found.1 in
    let of = and_parts (found.0.row.serial == s) (found.0.row.block == b) parts.1 in
    found.2 (λ e. is_somebody e.holder && (e.row.block == b)) (both_true (is_somebody found.0.holder) (found.0.row.block == b) parts.0 of.1)

-- a ticket of b is left where an event makes one, and somebody holds one of its serial
pub left_is : (l : Ledger) (b : ℕ) → list_any (makes_left (table l) b) l ≡ left (table l) b
left_is l b = same_truth (list_any (makes_left (table l) b) l) (left (table l) b) to from
  where
    to : list_any (makes_left (table l) b) l ≡ true → left (table l) b ≡ true
    to e =
        let found = some_of (makes_left (table l) b) l e in
        let held = makes_held (table l) b (makes found.0) found.1 in
        held_left (table l) held.0 b held.1

    from : left (table l) b ≡ true → list_any (makes_left (table l) b) l ≡ true
    from e =
        let found = some_of (λ e. is_somebody e.holder && (e.row.block == b)) (table l) e in
        let s : ℕ = found.0.row.serial in
        let parts = and_parts (is_somebody found.0.holder) (found.0.row.block == b) found.1 in
        let of : is_of s b found.0 ≡ true = both_true (s == s) (found.0.row.block == b) (itself s) parts.1 in
        let held : held_of (table l) s b ≡ true = found.2 (λ e. is_somebody e.holder && is_of s b e) (both_true (is_somebody found.0.holder) (is_of s b found.0) parts.0 of) in
        let any : any_of (table l) s b ≡ true = found.2 (is_of s b) of in
        let made = some_of (makes_it s b) l (sym (any_made l s b) ∙ any) in
        made.2 (makes_left (table l) b) (made_it (table l) s b (makes made.0) held made.1)

-- What is left

one_counted : (p : Row → Bool) (r : Row) (rs : List Row) → count_by p (r ∷ rs) ≡ cond (p r) 1 0 + count_by p rs
one_counted p r rs = sum_by-cons (λ r. cond (p r) 1 0) r rs

none_counted : (es : List Entry) (b : ℕ) → (count_of (unspent es) b == 0) ≡ not (left es b)
none_counted [] b = refl
none_counted (e ∷ es) b = by_tests (is_somebody e.holder) (e.row.block == b) refl (none_counted es b)
  where
    by_tests : (h t : Bool) → (e.row.block == b) ≡ t → (count_of (unspent es) b == 0) ≡ not (left es b)
        → (count_of (cond h (e.row ∷ unspent es) (unspent es)) b == 0) ≡ not ((h && t) || left es b)
    by_tests false t at rest = rest
    by_tests true true at rest =
        let more : count_of (e.row ∷ unspent es) b ≡ cond (e.row.block == b) 1 0 + count_of (unspent es) b = one_counted (λ r. r.block == b) e.row (unspent es) in
        let one : ◌≡◌ {A = ℕ} (cond (e.row.block == b) 1 0) 1 = ap (λ t. cond t 1 0) at in
        let some : 0 < count_of (e.row ∷ unspent es) b = omega (arith, more, one) in
        grind (arith, nat_tests, some)
    by_tests true false at rest =
        let more : count_of (e.row ∷ unspent es) b ≡ cond (e.row.block == b) 1 0 + count_of (unspent es) b = one_counted (λ r. r.block == b) e.row (unspent es) in
        let none : ◌≡◌ {A = ℕ} (cond (e.row.block == b) 1 0) 0 = ap (λ t. cond t 1 0) at in
        let same : count_of (e.row ∷ unspent es) b ≡ count_of (unspent es) b = omega (arith, more, none) in
        ap (λ n. n == 0) same ∙ rest

released_at : (l : Ledger) (b : ℕ) → 1 ≤ b → b < 1 + opened l → is_released l b ≡ not (left (table l) b)
released_at l b low high =
    let made : is_opened l b ≡ true = grind (arith, nat_tests) in
    ap (λ t. t && (count l b == 0)) made ∙ none_counted (table l) b

-- the blocks that no ticket is left of are the released ones
pub all_released : (l : Ledger) (n : ℕ) → n ≡ opened l → count_by (λ b. not (left (table l) b)) (range_with_len 1 n) ≡ released l
all_released l n all =
    ap (λ n. count_by (λ b. not (left (table l) b)) (range_with_len 1 n)) all
    ∙ count_alike (λ b. not (left (table l) b)) (is_released l) 1 (opened l) (λ b low high. sym (released_at l b low high))
