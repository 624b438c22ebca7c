-- Who holds a ticket after one more event, in a legal history; and what a ticket in a message names.
use Rattle.std.proofs.Common.{◌≡◌, ℕ, ◌+◌, ◌%◌, ◌^◌, ◌<◌, ◌==◌, ◌&&◌, Bool, true, false, cond, sym, ◌∙◌, ap, refl, subst, arith, eq-eqb, ne_eqb, List, [], ◌∷◌, ◌++◌, drop, Option, Some, None}
use Rattle.std.specs.Prelude.{slice_get}
use Rattle.std.specs.Option.{option_map, option_and_then}
use Rattle.std.proofs.lemmas.Bool.{eqb-true, lt-ltb}
use Rattle.std.proofs.lemmas.List.Sums.{sum_by-cons}
use Rattle.es_value.specs.Values.{identity}
use Rattle.es_event.specs.declared.access.Change.{Change}
use Rattle.es_event.specs.declared.ledger_event.Body.{Body}
use Rattle.es_event.specs.declared.ledger_event.Body.TheVariants.{Plain, Block}
use Rattle.es_event.specs.declared.ledger_event.LedgerEvent.{LedgerEvent}
use Rattle.es_event.specs.declared.ledger_event.LedgerEvent.TheVariants.{Opened, Posted, Taken, Spent, Accessed, Drained}
use Rattle.es_event.specs.declared.row.Row.{Row}
use Rattle.es_event.specs.declared.row.Entry.{Entry}
use Rattle.es_event.specs.declared.row.Holder.{Holder}
use Rattle.es_event.specs.declared.row.Holder.TheVariants.{Agent, Port, Nobody}
use Rattle.es_event.specs.Access.{written, IsStorable}
use Rattle.es_event.specs.Rows.{row, held_by, held, is_agent, moved, line_of, count_of}
use Rattle.es_event.specs.Ledger.{Ledger, size, serials, table, port_of, is_at, front, serial_in, posted_line, moved_if, by_agent, holder_of, word, written_by, newest_word}
use Rattle.es_event.specs.LegalLedger.{ComesNext, LegalSoFar, IsPostable, Reaches, holds_block, owed}
use Rattle.es_event.proofs.Entries.{inner}
use Rattle.es_ledger.proofs.Lying.{lying_all, lies_in_front}
use Rattle.es_ledger.proofs.Lines.{holder_at}
use Rattle.es_ledger.proofs.Made.{Each, IsMade, all_made}
use Rattle.es_ledger.proofs.Numbered.{none_later, numbered}
use Rattle.es_ledger.proofs.Plain.{ArePlain, IsPlain, all_plain}

-- Lines

pub line_first : (k : ℕ) (t us : List Entry) (e : Entry) → line_of k t ≡ Some e → line_of k (t ++ us) ≡ Some e
line_first k [] us e is = cc
line_first k (x ∷ xs) us e is = step (x.row.serial == k) is (line_first k xs us e)
  where
    step : (b : Bool) → cond b (Some x) (line_of k xs) ≡ Some e → (line_of k xs ≡ Some e → line_of k (xs ++ us) ≡ Some e) → cond b (Some x) (line_of k (xs ++ us)) ≡ Some e
    step true is ih = is
    step false is ih = ih is

pub line_last : (k : ℕ) (t us : List Entry) → line_of k t ≡ None → line_of k (t ++ us) ≡ line_of k us
line_last k [] us is = refl
line_last k (x ∷ xs) us is = step (x.row.serial == k) is (line_last k xs us)
  where
    step : (b : Bool) → cond b (Some x) (line_of k xs) ≡ None → (line_of k xs ≡ None → line_of k (xs ++ us) ≡ line_of k us) → cond b (Some x) (line_of k (xs ++ us)) ≡ line_of k us
    step true is ih = cc
    step false is ih = ih is

pub line_other : (j k : ℕ) (who : Holder) (t : List Entry) → (j ≡ k → ⊥) → line_of j (moved k who t) ≡ line_of j t
line_other j k who [] apart = refl
line_other j k who (e ∷ es) apart = step (e.row.serial == k) refl (line_other j k who es apart)
  where
    step : (b : Bool) → (e.row.serial == k) ≡ b → line_of j (moved k who es) ≡ line_of j es → line_of j (cond b (held_by who e.row) e ∷ moved k who es) ≡ line_of j (e ∷ es)
    step true is ih =
        let away : (e.row.serial == j) ≡ false = ne_eqb e.row.serial j (λ same. apart (sym same ∙ eqb-true e.row.serial k is)) in
        ap (λ b. cond b (Some (held_by who e.row)) (line_of j (moved k who es))) away ∙ ih ∙ sym (ap (λ b. cond b (Some e) (line_of j es)) away)
    step false is ih = ap (λ o. cond (e.row.serial == j) (Some e) o) ih

pub line_moved : (k : ℕ) (who : Holder) (t : List Entry) (e : Entry) → line_of k t ≡ Some e → line_of k (moved k who t) ≡ Some (held_by who e.row)
line_moved k who [] e is = cc
line_moved k who (x ∷ xs) e is = step (x.row.serial == k) refl is (line_moved k who xs e)
  where
    step : (b : Bool) → (x.row.serial == k) ≡ b → cond b (Some x) (line_of k xs) ≡ Some e → (line_of k xs ≡ Some e → line_of k (moved k who xs) ≡ Some (held_by who e.row))
        → line_of k (cond b (held_by who x.row) x ∷ moved k who xs) ≡ Some (held_by who e.row)
    step true same is ih = ap (λ b. cond b (Some (held_by who x.row)) (line_of k (moved k who xs))) same ∙ ap (λ (e : Entry). Some (held_by who e.row)) (inner is)
    step false same is ih = ap (λ b. cond b (Some x) (line_of k (moved k who xs))) same ∙ ih is

abbrev row_in : ℕ → List Entry → Option Row
row_in k t = option_map (λ e. e.row) (line_of k t)

row_stays : (j k : ℕ) (who : Holder) (t : List Entry) → row_in j (moved k who t) ≡ row_in j t
row_stays j k who [] = refl
row_stays j k who (e ∷ es) = step (e.row.serial == k) (row_stays j k who es)
  where
    there : (b : Bool) (x : Entry) → x.row ≡ e.row → row_in j (moved k who es) ≡ row_in j es → option_map (λ e. e.row) (cond b (Some x) (line_of j (moved k who es))) ≡ option_map (λ e. e.row) (cond b (Some e) (line_of j es))
    there true x same ih = ap Some same
    there false x same ih = ih

    step : (b : Bool) → row_in j (moved k who es) ≡ row_in j es → row_in j (cond b (held_by who e.row) e ∷ moved k who es) ≡ row_in j (e ∷ es)
    step true ih = there (e.row.serial == j) (held_by who e.row) refl ih
    step false ih = there (e.row.serial == j) e refl ih

row_stays_if : (o : Option ℕ) (j : ℕ) (who : Holder) (t : List Entry) → row_in j (moved_if o who t) ≡ row_in j t
row_stays_if None j who t = refl
row_stays_if (Some k) j who t = row_stays j k who t

no_row : (o : Option Entry) → option_map (λ (e : Entry). e.row) o ≡ None → o ≡ None
no_row None is = refl
no_row (Some e) is = cc

pub none_moved : (j k : ℕ) (who : Holder) (t : List Entry) → line_of j t ≡ None → line_of j (moved k who t) ≡ None
none_moved j k who t is = no_row (line_of j (moved k who t)) (row_stays j k who t ∙ ap (option_map (λ e. e.row)) is)

serial_at : (k : ℕ) (t : List Entry) (e : Entry) → line_of k t ≡ Some e → e.row.serial ≡ k
serial_at k [] e is = cc
serial_at k (x ∷ xs) e is = step (x.row.serial == k) refl is (serial_at k xs e)
  where
    step : (b : Bool) → (x.row.serial == k) ≡ b → cond b (Some x) (line_of k xs) ≡ Some e → (line_of k xs ≡ Some e → e.row.serial ≡ k) → e.row.serial ≡ k
    step true same is ih = ap (λ (e : Entry). e.row.serial) (sym (inner is)) ∙ eqb-true x.row.serial k same
    step false same is ih = ih is

-- New serials

pub one_line : (k : ℕ) (x : Entry) → (x.row.serial ≡ k → ⊥) → line_of k (x ∷ []) ≡ None
one_line k x other = ap (λ b. cond b (Some x) None) (ne_eqb x.row.serial k other)

no_line : (o : Option Entry) → option_map (λ (e : Entry). e.holder) o ≡ None → o ≡ None
no_line None is = refl
no_line (Some e) is = cc

-- what is numbered later has no line yet
pub fresh : (n : ℕ) (l : Ledger) → LegalSoFar n l → (k : ℕ) → serials l < k → line_of k (table l) ≡ None
fresh n l legal k more = no_line (line_of k (table l)) (none_later l k (numbered n l legal) more)

-- Holders

by_holder : (h : Holder) (q : Row) (a : ℕ) (r : Row) → by_agent (held_by h q) ≡ Some (a, r) → held_by h q ≡ held_by (Agent a) r
by_holder (Agent c) q a r is =
    let both : ◌≡◌ {A = ℕ × Row} (c, q) (a, r) = inner is in
    ap (λ c. held_by (Agent c) q) (ap (λ p. p.0) both) ∙ ap (held_by (Agent a)) (ap (λ p. p.1) both)
by_holder (Port s t) q a r is = cc
by_holder Nobody q a r is = cc

pub held_line : (o : Option Entry) (a : ℕ) (r : Row) → option_and_then by_agent o ≡ Some (a, r) → o ≡ Some (held_by (Agent a) r)
held_line None a r is = cc
held_line (Some e) a r is = ap Some (by_holder e.holder e.row a r is)

-- a ticket of an agent stays with it, but for its own spending
pub held_on : (n : ℕ) (l : Ledger) (e : LedgerEvent) (k a : ℕ) (r : Row) → LegalSoFar n l → (e ≡ Spent k → ⊥) → holder_of l k ≡ Some (a, r) → holder_of (e ∷ l) k ≡ Some (a, r)
held_on n l (Opened b w s c) k a r legal other is = ap (option_and_then by_agent) (line_first k (table l) _ (held_by (Agent a) r) (held_line (line_of k (table l)) a r is))
held_on n l (Posted s u m) k a r legal other is = ap (option_and_then by_agent) (line_first k (table l) (posted_line l s u m) (held_by (Agent a) r) (held_line (line_of k (table l)) a r is))
held_on n l (Taken s u) k a r legal other is = taken (option_and_then serial_in (front l s u)) refl
  where
    taken : (o : Option ℕ) → option_and_then serial_in (front l s u) ≡ o → option_and_then by_agent (line_of k (moved_if o (Agent u) (table l))) ≡ Some (a, r)
    taken None at = is
    taken (Some j) at =
        let lies : holder_at j (table l) ≡ Some (Port s u) = lies_in_front l s u j (lying_all n l legal) at in
        let mine : holder_at k (table l) ≡ Some (Agent a) = ap (option_map (λ e. e.holder)) (held_line (line_of k (table l)) a r is) in
        ap (option_and_then by_agent) (line_other k j (Agent u) (table l) (λ same. let clash : Some (Agent a) ≡ Some (Port s u) = sym mine ∙ ap (λ i. holder_at i (table l)) same ∙ lies in cc)) ∙ is
held_on n l (Spent j) k a r legal other is = ap (option_and_then by_agent) (line_other k j Nobody (table l) (λ same. other (ap Spent (sym same)))) ∙ is
held_on n l _ k a r legal other is = is

-- that of a new block is its opener's
pub held_new : (n : ℕ) (l : Ledger) (b w k a : ℕ) → LegalSoFar n l → k ≡ serials l + 1 → holder_of (Opened b w k a ∷ l) k ≡ Some (a, row k b w)
held_new n l b w k a legal next =
    ap (option_and_then by_agent)
    (line_last k (table l) _ (fresh n l legal k (omega (arith, next))) ∙ ap (λ c. cond c (Some (held_by (Agent a) (row k b w))) None) (eq-eqb k k refl))

-- What is held was made before

-- the next serial is no agent's
pub not_yet : (n : ℕ) (l : Ledger) (k a : ℕ) (r : Row) → LegalSoFar n l → holder_of l k ≡ Some (a, r) → k ≡ serials l + 1 → ⊥
not_yet n l k a r legal is next = let none : ◌≡◌ {A = Option (ℕ × Row)} None (Some (a, r)) = sym (ap (option_and_then by_agent) (fresh n l legal k (omega (arith, next)))) ∙ is in cc

-- a ticket in a port is no agent's
pub not_mine : (n : ℕ) (l : Ledger) (s u k b a : ℕ) (r : Row) → LegalSoFar n l → front l s u ≡ Some (Block b k) → holder_of l k ≡ Some (a, r) → ⊥
not_mine n l s u k b a r legal at is =
    let lies : holder_at k (table l) ≡ Some (Port s u) = lies_in_front l s u k (lying_all n l legal) (ap (option_and_then serial_in) at) in
    let mine : holder_at k (table l) ≡ Some (Agent a) = ap (option_map (λ e. e.holder)) (held_line (line_of k (table l)) a r is) in
    let clash : Some (Agent a) ≡ Some (Port s u) = sym mine ∙ lies in cc

-- What a ticket names

pub each_line : (P : Row → Type 0) (k : ℕ) (t : List Entry) (e : Entry) → Each P t → line_of k t ≡ Some e → P e.row
each_line P k [] e each is = cc
each_line P k (x ∷ xs) e each is = step (x.row.serial == k) is (each_line P k xs e each.1)
  where
    step : (b : Bool) → cond b (Some x) (line_of k xs) ≡ Some e → (line_of k xs ≡ Some e → P e.row) → P e.row
    step true is ih = subst (λ (e : Entry). P e.row) (inner is) each.0
    step false is ih = ih is

-- the block in a message is that of its ticket's row
abbrev RowAt : List Entry → Body → Type 0
RowAt t (Plain v) = Unit {0}
RowAt t (Block b k) = option_map (λ r. r.block) (row_in k t) ≡ Some b

abbrev RowsAt : List Entry → List Body → Type 0
RowsAt t [] = Unit {0}
RowsAt t (m ∷ ms) = RowAt t m × RowsAt t ms

rows_kept : (t u : List Entry) (ms : List Body) → ((k b : ℕ) → option_map (λ r. r.block) (row_in k t) ≡ Some b → option_map (λ r. r.block) (row_in k u) ≡ Some b) → RowsAt t ms → RowsAt u ms
rows_kept t u [] keep at = tt
rows_kept t u (Plain v ∷ ms) keep at = (tt, rows_kept t u ms keep at.1)
rows_kept t u (Block b k ∷ ms) keep at = (keep k b at.0, rows_kept t u ms keep at.1)

rows_last : (t : List Entry) (ms : List Body) (m : Body) → RowsAt t ms → RowAt t m → RowsAt t (ms ++ m ∷ [])
rows_last t [] m at here = (here, tt)
rows_last t (x ∷ ms) m at here = (at.0, rows_last t ms m at.1 here)

rows_dropped : (t : List Entry) (ms : List Body) → RowsAt t ms → RowsAt t (drop 1 ms)
rows_dropped t [] at = tt
rows_dropped t (m ∷ ms) at = at.1

rows_either : (t : List Entry) (b : Bool) (ms ns : List Body) → RowsAt t ms → RowsAt t ns → RowsAt t (cond b ms ns)
rows_either t true ms ns x y = x
rows_either t false ms ns x y = y

block_first : (k b : ℕ) (t us : List Entry) → option_map (λ (r : Row). r.block) (row_in k t) ≡ Some b → option_map (λ (r : Row). r.block) (row_in k (t ++ us)) ≡ Some b
block_first k b t us is = at (line_of k t) refl is
  where
    at : (o : Option Entry) → line_of k t ≡ o → option_map (λ (r : Row). r.block) (option_map (λ (e : Entry). e.row) o) ≡ Some b → option_map (λ (r : Row). r.block) (row_in k (t ++ us)) ≡ Some b
    at None here is = cc
    at (Some e) here is = ap (λ o. option_map (λ (r : Row). r.block) (option_map (λ (e : Entry). e.row) o)) (line_first k t us e here) ∙ is

posted_row : (n : ℕ) (l : Ledger) (a r : ℕ) (m : Body) → LegalSoFar n l → IsPostable l a m → RowAt (table l ++ posted_line l a r m) m
posted_row n l a r (Plain v) legal may = tt
posted_row n l a r (Block b k) legal may =
    let next = may.0 in
    ap (λ o. option_map (λ (r : Row). r.block) (option_map (λ (e : Entry). e.row) o))
    (line_last k (table l) (posted_line l a r (Block b k)) (fresh n l legal k (omega (arith, next))) ∙ ap (λ c. cond c (Some (held_by (Port a r) (row k b (size l b)))) None) (eq-eqb k k refl))

rows_next : (n : ℕ) (l : Ledger) (e : LedgerEvent) (o : Option ℕ) → ComesNext n l e o → LegalSoFar n l → (s r : ℕ) → RowsAt (table l) (port_of l s r) → RowsAt (table (e ∷ l)) (port_of (e ∷ l) s r)
rows_next n l e (Some j) c legal s r at = subst (λ e. RowsAt (table (e ∷ l)) (port_of (e ∷ l) s r)) (sym c) (rows_kept (table l) _ _ (λ k b is. ap (option_map (λ r. r.block)) (row_stays k j Nobody (table l)) ∙ is) at)
rows_next n l (Opened b w k a) None c legal s r at = rows_kept (table l) _ _ (λ j b is. block_first j b (table l) _ is) at
rows_next n l (Posted t u m) None c legal s r at =
    let old = rows_kept (table l) (table l ++ posted_line l t u m) (port_of l s r) (λ j b is. block_first j b (table l) (posted_line l t u m) is) at in
    rows_either _ (is_at s r t u) _ _ (rows_last _ (port_of l s r) m old (posted_row n l t u m legal c.3)) old
rows_next n l (Taken t u) None c legal s r at =
    let old = rows_kept (table l) (moved_if (option_and_then serial_in (front l t u)) (Agent u) (table l)) (port_of l s r) (λ j b is. ap (option_map (λ r. r.block)) (row_stays_if (option_and_then serial_in (front l t u)) j (Agent u) (table l)) ∙ is) at in
    rows_either _ (is_at s r t u) _ _ (rows_dropped _ (port_of l s r) old) old
rows_next n l (Spent k) None c legal s r at = rows_kept (table l) _ _ (λ j b is. ap (option_map (λ r. r.block)) (row_stays j k Nobody (table l)) ∙ is) at
rows_next n l (Drained t u) None c legal s r at = rows_either _ (is_at s r t u) _ _ (rows_dropped _ (port_of l s r) at) at
rows_next n l _ None c legal s r at = at

rows_at : (n : ℕ) (l : Ledger) → LegalSoFar n l → (s r : ℕ) → RowsAt (table l) (port_of l s r)
rows_at n [] legal s r = tt
rows_at n (e ∷ l) legal s r = rows_next n l e (owed l) legal.0 legal.1 s r (rows_at n l legal.1 s r)

front_row : (t : List Entry) (ms : List Body) (m : Body) → RowsAt t ms → slice_get ms 0 ≡ Some m → RowAt t m
front_row t [] m at is = cc
front_row t (x ∷ ms) m at is = subst (RowAt t) (inner is) at.0

-- that of a message with a block is its receiver's, once it is taken
pub held_taken : (n : ℕ) (l : Ledger) (s u b k : ℕ) → LegalSoFar n l → front l s u ≡ Some (Block b k) → holder_of (Taken s u ∷ l) k ≡ Some (u, row k b (size l b))
held_taken n l s u b k legal at = by_line (line_of k (table l)) refl (front_row (table l) (port_of l s u) (Block b k) (rows_at n l legal s u) at)
  where
    names : (e : Entry) → line_of k (table l) ≡ Some e → e.row.block ≡ b → e.row ≡ row k b (size l b)
    names e here block =
        let made = each_line (IsMade l) k (table l) e (all_made n l legal) here in
        ap (λ s. row s e.row.block e.row.words) (serial_at k (table l) e here) ∙ ap (λ b. row k b e.row.words) block ∙ ap (row k b) (made.2 ∙ ap (size l) block)

    by_line : (o : Option Entry) → line_of k (table l) ≡ o → option_map (λ (r : Row). r.block) (option_map (λ (e : Entry). e.row) o) ≡ Some b → holder_of (Taken s u ∷ l) k ≡ Some (u, row k b (size l b))
    by_line None here is = cc
    by_line (Some e) here is =
        ap (λ m. option_and_then by_agent (line_of k (moved_if (option_and_then serial_in m) (Agent u) (table l)))) at
        ∙ ap (option_and_then by_agent) (line_moved k (Agent u) (table l) e here)
        ∙ ap (λ r. Some (u, r)) (names e here (inner is))

-- Who holds a ticket of a block

counted : (k a : ℕ) (r : Row) (t : List Entry) → line_of k t ≡ Some (held_by (Agent a) r) → 0 < count_of (held a t) r.block
counted k a r [] is = cc
counted k a r (x ∷ xs) is = at_line (x.row.serial == k) is (counted k a r xs)
  where
    here : x ≡ held_by (Agent a) r → 0 < count_of (held a (x ∷ xs)) r.block
    here same =
        let first = sum_by-cons (λ (q : Row). cond {A = ℕ} (q.block == r.block) 1 0) r (held a xs) in
        let one : ◌≡◌ {A = ℕ} (cond (r.block == r.block) 1 0) 1 = ap (λ c. cond {A = ℕ} c 1 0) (eq-eqb r.block r.block refl) in
        subst (λ (x : Entry). 0 < count_of (held a (x ∷ xs)) r.block) (sym same)
        (subst (λ c. 0 < count_of (cond c (r ∷ held a xs) (held a xs)) r.block) (sym (eq-eqb a a refl)) (omega (arith, first, one)))

    later : 0 < count_of (held a xs) r.block → (c : Bool) → 0 < count_of (cond c (x.row ∷ held a xs) (held a xs)) r.block
    later some true = let first = sum_by-cons (λ (q : Row). cond {A = ℕ} (q.block == r.block) 1 0) x.row (held a xs) in omega (arith, first, some)
    later some false = some

    at_line : (b : Bool) → cond b (Some x) (line_of k xs) ≡ Some (held_by (Agent a) r) → (line_of k xs ≡ Some (held_by (Agent a) r) → 0 < count_of (held a xs) r.block) → 0 < count_of (held a (x ∷ xs)) r.block
    at_line true is ih = here (inner is)
    at_line false is ih = later (ih is) (is_agent a x.holder)

pub holds_it : (l : Ledger) (k a : ℕ) (r : Row) → holder_of l k ≡ Some (a, r) → holds_block l a r.block ≡ true
holds_it l k a r is = lt-ltb 0 _ (counted k a r (table l) (held_line (line_of k (table l)) a r is))

-- A word has 32 bits

small_newest : (o : Option (ℕ × ℕ × ℕ)) (b i before : ℕ) → ((p : ℕ × ℕ × ℕ) → o ≡ Some p → p.2 < 2 ^ 32) → before < 2 ^ 32 → newest_word o b i before < 2 ^ 32
small_newest None b i before new old = old
small_newest (Some p) b i before new old = at ((p.0 == b) && (p.1 == i))
  where
    at : (c : Bool) → cond c p.2 before < 2 ^ 32
    at true = new p refl
    at false = old

reached_storable : (o : Option (ℕ × Row)) (l : Ledger) (i old : ℕ) (m : Change) → Reaches o i (λ r. (old ≡ word l r.block i) × IsStorable m) → IsStorable m
reached_storable None l i old m r = absurd r
reached_storable (Some p) l i old m r = r.1.1

small_write : (o : Option (ℕ × Row)) (i w : ℕ) (p : ℕ × ℕ × ℕ) → option_map (λ q. (q.1.block, i, w)) o ≡ Some p → p.2 ≡ w
small_write None i w p is = cc
small_write (Some q) i w p is = let same : ◌≡◌ {A = ℕ × ℕ × ℕ} (q.1.block, i, w) p = inner is in ap (λ p. p.2) (sym same)

small_written : (l : Ledger) (s i old : ℕ) (m : Change) (p : ℕ × ℕ × ℕ) → IsStorable m → option_and_then (written_by l s i) (written m old) ≡ Some p → p.2 < 2 ^ 32
small_written l s i old Change.Keep p may is = cc
small_written l s i old (Change.Write w) p may is = let same = small_write (holder_of l s) i w p is in omega (arith, may, same)
small_written l s i old (Change.Add n) p may is = let same = small_write (holder_of l s) i ((old + n) % 2 ^ 32) p is in omega (arith, same)

small_next : (n : ℕ) (l : Ledger) (e : LedgerEvent) (o : Option ℕ) → ComesNext n l e o → (b i : ℕ) → word l b i < 2 ^ 32 → word (e ∷ l) b i < 2 ^ 32
small_next n l e (Some j) c b i old = subst (λ e. word (e ∷ l) b i < 2 ^ 32) (sym c) old
small_next n l (Accessed s j m w) None c b i old =
    small_newest (option_and_then (written_by l s j) (written m w)) b i (word l b i) (λ p is. small_written l s j w m p (reached_storable (holder_of l s) l j w m c) is) old
small_next n l _ None c b i old = old

pub word_small : (n : ℕ) (l : Ledger) → LegalSoFar n l → (b i : ℕ) → word l b i < 2 ^ 32
word_small n [] legal b i = omega arith
word_small n (e ∷ l) legal b i = small_next n l e (owed l) legal.0 b i (word_small n l legal.1 b i)

-- A value in a message has no identity

pub front_plain : (n : ℕ) (l : Ledger) (s r : ℕ) (v : _) → LegalSoFar n l → front l s r ≡ Some (Plain v) → identity v ≡ None
front_plain n l s r v legal is = at (port_of l s r) (all_plain n l legal s r) is
  where
    at : (ms : List Body) → ArePlain ms → slice_get ms 0 ≡ Some (Plain v) → identity v ≡ None
    at [] are is = cc
    at (m ∷ ms) are is = let here : IsPlain (Plain v) = subst IsPlain (inner is) are.0 in here
