-- What one more event leaves of the tickets of a legal history: the rows that are not spent.
use Rattle.std.proofs.Common.{◌≡◌, ℕ, zero, suc, ◌+◌, ◌<◌, ◌≤◌, ◌==◌, List, [], ◌∷◌, ◌++◌, length, Option, Some, Bool, true, false, cond, refl, sym, ap, ◌∙◌, arith, eq-eqb, ne_eqb, length-append}
use Rattle.std.specs.Prelude.{slice_index_or, if◌then◌else◌}
use Rattle.std.specs.List.{range_with_len, Contains}
use Rattle.std.specs.Option.{option_and_then, option_map_or}
use Rattle.std.proofs.lemmas.Bool.{eqb-true}
use Rattle.std.proofs.lemmas.List.Sums.{sum_by-cons, sum_by-append, sum_by_push}
use Rattle.es_event.specs.declared.ledger_event.LedgerEvent.TheVariants.{Opened, Spent}
use Rattle.es_event.specs.declared.row.Row.{Row}
use Rattle.es_event.specs.declared.row.Entry.{Entry}
use Rattle.es_event.specs.declared.row.Holder.{Holder}
use Rattle.es_event.specs.declared.row.Holder.TheVariants.{Agent, Port, Nobody}
use Rattle.es_event.specs.Rows.{row, held_by, held, is_agent, is_somebody, unspent, count_of, moved, line_of}
use Rattle.es_event.specs.Ledger.{Ledger, serials, table, rows, count, by_agent, holder_of}
use Rattle.es_event.specs.LegalLedger.{LegalSoFar}
use Rattle.es_ledger.proofs.Lines.{rows_append, rows_moved}
use Rattle.es_ledger.proofs.Numbered.{serials_of, numbered, none_by}

-- A row of an agent's list is that of its serial

by_this : (a : ℕ) (r : Row) (h : Holder) → is_agent a h ≡ true → by_agent (held_by h r) ≡ Some (a, r)
by_this a r (Agent b) is = ap (λ c. Some (c, r)) (sym (eqb-true a b is))
by_this a r (Port s t) is = cc
by_this a r Nobody is = cc

-- the line of this serial, where it is the first, and where it is not
first_line : (s : ℕ) (e : Entry) (es : List Entry) → e.row.serial ≡ s → line_of s (e ∷ es) ≡ Some e
first_line s e es same = ap (λ b. cond b (Some e) (line_of s es)) (eq-eqb e.row.serial s same)

later_line : (s : ℕ) (e : Entry) (es : List Entry) → e.row.serial < s → line_of s (e ∷ es) ≡ line_of s es
later_line s e es less = ap (λ b. cond b (Some e) (line_of s es)) (ne_eqb e.row.serial s (λ same. omega arith))

-- the agent that holds the ticket of this serial in a table
abbrev pub agent_of : ℕ → List Entry → Option (ℕ × Row)
agent_of s t = option_and_then by_agent (line_of s t)

held_here : (a i m : ℕ) (r : Row) (t : List Entry) → serials_of t ≡ range_with_len i m → Contains (held a t) r → (i ≤ r.serial) × (agent_of r.serial t ≡ Some (a, r))
held_here a i m r [] is in_list = absurd (omega (arith, in_list.1))
held_here a i zero r (e ∷ es) is in_list = cc
held_here a i (suc m) r (e ∷ es) is in_list =
    let first : e.row.serial ≡ i = cc in
    step first (is_agent a e.holder) refl in_list.0 in_list.1 in_list.2 (held_here a (i + 1) m r es (cc))
  where
    behind : e.row.serial ≡ i → (i + 1 ≤ r.serial) × (agent_of r.serial es ≡ Some (a, r)) → (i ≤ r.serial) × (agent_of r.serial (e ∷ es) ≡ Some (a, r))
    behind first found = (omega (arith, found.0), ap (option_and_then by_agent) (later_line r.serial e es (omega (arith, found.0))) ∙ found.1)

    step : e.row.serial ≡ i → (b : Bool) → is_agent a e.holder ≡ b → (k : ℕ) → k < length (cond b (e.row ∷ held a es) (held a es)) → slice_index_or (cond b (e.row ∷ held a es) (held a es)) k r ≡ r
        → (Contains (held a es) r → (i + 1 ≤ r.serial) × (agent_of r.serial es ≡ Some (a, r))) → (i ≤ r.serial) × (agent_of r.serial (e ∷ es) ≡ Some (a, r))
    step first true is zero within at ih =
        let serial : e.row.serial ≡ r.serial = ap (λ (x : Row). x.serial) at in
        (omega arith, ap (option_and_then by_agent) (first_line r.serial e es serial) ∙ by_this a e.row e.holder is ∙ ap (λ x. Some (a, x)) at)
    step first true is (suc k) within at ih = behind first (ih (k, omega arith, at))
    step first false is k within at ih = behind first (ih (k, within, at))

pub holder_here : (n : ℕ) (l : Ledger) (a : ℕ) (r : Row) → LegalSoFar n l → Contains (held a (table l)) r → holder_of l r.serial ≡ Some (a, r)
holder_here n l a r legal in_list = (held_here a 1 (serials l) r (table l) (numbered n l legal) in_list).1

-- A ticket that is spent leaves, and nothing else does

-- the second list is the first without this row
abbrev pub Without : Row → List Row → List Row → Type 0
Without r old new = (xs : List Row) × (ys : List Row) × (old ≡ xs ++ r ∷ ys) × (new ≡ xs ++ ys)

pub without_more : (x r : Row) (b : Bool) (old new : List Row) → Without r old new → Without r (cond b (x ∷ old) old) (cond b (x ∷ new) new)
without_more x r true old new w = (x ∷ w.0, w.1, ap (λ l. x ∷ l) w.2, ap (λ l. x ∷ l) w.3)
without_more x r false old new w = w

by_whom : (a : ℕ) (r x : Row) (h : Holder) → by_agent (held_by h x) ≡ Some (a, r) → (is_somebody h ≡ true) × (x ≡ r)
by_whom a r x (Agent b) by = (refl, ap (λ o. option_map_or (λ (p : ℕ × Row). p.1) o x) by)
by_whom a r x (Port s t) by = cc
by_whom a r x Nobody by = cc

spent_leaves : (s a i m : ℕ) (r : Row) (t : List Entry) → serials_of t ≡ range_with_len i m → agent_of s t ≡ Some (a, r) → Without r (unspent t) (unspent (moved s Nobody t))
spent_leaves s a i m r [] is by = cc
spent_leaves s a i zero r (e ∷ es) is by = cc
spent_leaves s a i (suc m) r (e ∷ es) is by =
    let first : e.row.serial ≡ i = cc in
    let rest : serials_of es ≡ range_with_len (i + 1) m = cc in
    step (e.row.serial == s) refl by first rest (spent_leaves s a (i + 1) m r es rest)
  where
    step : (b : Bool) → (e.row.serial == s) ≡ b → option_and_then by_agent (cond b (Some e) (line_of s es)) ≡ Some (a, r) → e.row.serial ≡ i → serials_of es ≡ range_with_len (i + 1) m
        → (agent_of s es ≡ Some (a, r) → Without r (unspent es) (unspent (moved s Nobody es)))
        → Without r (unspent (e ∷ es)) (unspent (cond b (held_by Nobody e.row) e ∷ moved s Nobody es))
    step true same by first rest ih =
        let whom = by_whom a r e.row e.holder by in (
          [],
          unspent es,
          ap (λ b. cond b (e.row ∷ unspent es) (unspent es)) whom.0 ∙ ap (λ x. x ∷ unspent es) whom.1,
          rows_moved is_somebody s Nobody Nobody es refl refl (none_by s (i + 1) m Nobody es rest (omega (arith, eqb-true e.row.serial s same))),
        )
    step false other by first rest ih = without_more e.row r (is_somebody e.holder) _ _ (ih by)

pub count_without : (b : ℕ) (r : Row) (old new : List Row) → Without r old new → count_of old b ≡ cond (r.block == b) 1 0 + count_of new b
count_without b r old new w =
    let f = λ (x : Row). cond {A = ℕ} (x.block == b) 1 0 in
    omega (arith, ap (λ l. count_of l b) w.2, ap (λ l. count_of l b) w.3, sum_by-append f w.0 (r ∷ w.1), sum_by-cons f r w.1, sum_by-append f w.0 w.1)

pub length_without : (r : Row) (old new : List Row) → Without r old new → length old ≡ suc (length new)
length_without r old new w = omega (arith, ap length w.2, ap length w.3, length-append w.0 (r ∷ w.1), length-append w.0 w.1)

pub spent_count : (n : ℕ) (l : Ledger) (s a : ℕ) (r : Row) → LegalSoFar n l → holder_of l s ≡ Some (a, r) → (b : ℕ) → count l b ≡ (if r.block == b then 1 else 0) + count (Spent s ∷ l) b
spent_count n l s a r legal by b = count_without b r (rows l) (rows (Spent s ∷ l)) (spent_leaves s a 1 (serials l) r (table l) (numbered n l legal) by)

pub spent_length : (n : ℕ) (l : Ledger) (s a : ℕ) (r : Row) → LegalSoFar n l → holder_of l s ≡ Some (a, r) → length (rows l) ≡ suc (length (rows (Spent s ∷ l)))
spent_length n l s a r legal by = length_without r (rows l) (rows (Spent s ∷ l)) (spent_leaves s a 1 (serials l) r (table l) (numbered n l legal) by)

-- A block that is made brings one row

pub opened_count : (l : Ledger) (b w s a c : ℕ) → count (Opened b w s a ∷ l) c ≡ (if b == c then 1 else 0) + count l c
opened_count l b w s a c =
    let f = λ (x : Row). cond {A = ℕ} (x.block == c) 1 0 in
    omega (arith, ap (λ l. count_of l c) (rows_append is_somebody (table l) (held_by (Agent a) (row s b w) ∷ [])), sum_by_push f (rows l) (row s b w))

pub opened_length : (l : Ledger) (b w s a : ℕ) → length (rows (Opened b w s a ∷ l)) ≡ suc (length (rows l))
opened_length l b w s a =
    omega (arith, ap length (rows_append is_somebody (table l) (held_by (Agent a) (row s b w) ∷ [])), length-append (rows l) (row s b w ∷ []))

-- There are at most as many rows as serials

few : (i m : ℕ) (t : List Entry) → serials_of t ≡ range_with_len i m → length (unspent t) ≤ m
few i m [] is = omega arith
few i zero (e ∷ es) is = cc
few i (suc m) (e ∷ es) is = step (is_somebody e.holder) (few (i + 1) m es (cc))
  where
    step : (b : Bool) → length (unspent es) ≤ m → length (cond b (e.row ∷ unspent es) (unspent es)) ≤ suc m
    step true less = omega arith
    step false less = omega arith

pub rows_few : (n : ℕ) (l : Ledger) → LegalSoFar n l → length (rows l) ≤ serials l
rows_few n l legal = few 1 (serials l) (table l) (numbered n l legal)
