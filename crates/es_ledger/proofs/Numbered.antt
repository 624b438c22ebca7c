-- In a legal history the lines of the table are numbered from 1, so that each serial has at most one.
use Rattle.std.proofs.Common.{◌≡◌, ℕ, zero, suc, ◌+◌, ◌<◌, ◌≤◌, ◌==◌, List, [], ◌∷◌, ◌++◌, Option, Some, None, Bool, true, false, cond, refl, sym, ap, ◌∙◌, subst, arith, ne_eqb}
use Rattle.std.specs.Prelude.{map}
use Rattle.std.specs.List.{range_with_len}
use Rattle.std.specs.Option.{option_map, option_and_then}
use Rattle.std.proofs.lemmas.List.{map-append}
use Rattle.std.proofs.lemmas.Bool.{eqb-true, false≢true}
use Rattle.es_event.specs.declared.ledger_event.Body.TheVariants.{Plain, Block}
use Rattle.es_event.specs.declared.ledger_event.LedgerEvent.{LedgerEvent}
use Rattle.es_event.specs.declared.ledger_event.LedgerEvent.TheVariants.{Opened, Posted, Taken, Spent}
use Rattle.es_event.specs.declared.row.Entry.{Entry}
use Rattle.es_event.specs.declared.row.Holder.{Holder}
use Rattle.es_event.specs.declared.row.Holder.TheVariants.{Agent}
use Rattle.es_event.specs.Rows.{held_by, moved, line_of}
use Rattle.es_event.specs.Ledger.{Ledger, serials, table, moved_if, front, serial_in}
use Rattle.es_event.specs.LegalLedger.{ComesNext, LegalSoFar, owed}
use Rattle.es_ledger.proofs.Lines.{holder_at, OnlyBy}

abbrev pub serials_of : List Entry → List ℕ
serials_of t = map (λ e. e.row.serial) t

-- The table is numbered

serials_moved : (k : ℕ) (who : Holder) (t : List Entry) → serials_of (moved k who t) ≡ serials_of t
serials_moved k who [] = refl
serials_moved k who (e ∷ es) = step (e.row.serial == k) (serials_moved k who es)
  where
    step : (b : Bool) → serials_of (moved k who es) ≡ serials_of es → serials_of (cond b (held_by who e.row) e ∷ moved k who es) ≡ serials_of (e ∷ es)
    step true ih = ap (λ l. e.row.serial ∷ l) ih
    step false ih = ap (λ l. e.row.serial ∷ l) ih

serials_moved_if : (k : Option ℕ) (who : Holder) (t : List Entry) → serials_of (moved_if k who t) ≡ serials_of t
serials_moved_if None who t = refl
serials_moved_if (Some k) who t = serials_moved k who t

range_more : (i m : ℕ) → range_with_len i m ++ (m + i) ∷ [] ≡ range_with_len i (suc m)
range_more i zero = ap (λ j. j ∷ []) (let same : 0 + i ≡ i = omega arith in same)
range_more i (suc m) =
    let next : suc m + i ≡ m + (i + 1) = omega arith in
    ap (λ l. i ∷ l) (ap (λ j. range_with_len (i + 1) m ++ j ∷ []) next ∙ range_more (i + 1) m)

-- the history's lines are numbered
abbrev pub IsNumbered : Ledger → Type 0
IsNumbered l = serials_of (table l) ≡ range_with_len 1 (serials l)

same_number : (l : Ledger) (t : List Entry) → serials_of t ≡ serials_of (table l) → IsNumbered l → serials_of t ≡ range_with_len 1 (0 + serials l)
same_number l t same is = same ∙ is ∙ ap (range_with_len 1) (let none : serials l ≡ 0 + serials l = omega arith in none)

next_number : (l : Ledger) (e : Entry) → e.row.serial ≡ serials l + 1 → IsNumbered l → serials_of (table l ++ e ∷ []) ≡ range_with_len 1 (1 + serials l)
next_number l e next is =
    map-append (λ e. e.row.serial) (table l) (e ∷ []) ∙ ap (λ ks. ks ++ e.row.serial ∷ []) is ∙ ap (λ k. range_with_len 1 (serials l) ++ k ∷ []) next
    ∙ range_more 1 (serials l) ∙ ap (range_with_len 1) (let more : suc (serials l) ≡ 1 + serials l = omega arith in more)

number_next : (n : ℕ) (l : Ledger) (e : LedgerEvent) (o : Option ℕ) → ComesNext n l e o → IsNumbered l → IsNumbered (e ∷ l)
number_next n l e (Some k) c is = subst (λ e. IsNumbered (e ∷ l)) (sym c) (same_number l _ (serials_moved k _ (table l)) is)
number_next n l (Opened b w k a) None c is = next_number l _ c.1 is
number_next n l (Posted a r (Plain v)) None c is = same_number l _ (ap serials_of (append_nil (table l))) is
  where
    append_nil : (t : List Entry) → t ++ [] ≡ t
    append_nil [] = refl
    append_nil (e ∷ es) = ap (λ l. e ∷ l) (append_nil es)
number_next n l (Posted a r (Block b k)) None c is = next_number l _ c.3.0 is
number_next n l (Taken s r) None c is = same_number l _ (serials_moved_if (option_and_then serial_in (front l s r)) (Agent r) (table l)) is
number_next n l (Spent k) None c is = same_number l _ (serials_moved k _ (table l)) is
number_next n l _ None c is = same_number l _ refl is

pub numbered : (n : ℕ) (l : Ledger) → LegalSoFar n l → IsNumbered l
numbered n [] legal = refl
numbered n (e ∷ l) legal = number_next n l e (owed l) legal.0 (numbered n l legal.1)

-- So each serial has at most one line

pub none_by : (k i m : ℕ) (who : Holder) (t : List Entry) → serials_of t ≡ range_with_len i m → k < i → OnlyBy k who t
none_by k i m who [] is less = tt
none_by k i zero who (e ∷ es) is less = cc
none_by k i (suc m) who (e ∷ es) is less =
    let first : e.row.serial ≡ i = cc in
    ((λ same. absurd (omega (arith, eqb-true e.row.serial k same, first, less))), none_by k (i + 1) m who es (cc) (omega arith))

only_from : (k i m : ℕ) (who : Holder) (t : List Entry) → serials_of t ≡ range_with_len i m → holder_at k t ≡ Some who → OnlyBy k who t
only_from k i m who [] is at = tt
only_from k i zero who (e ∷ es) is at = cc
only_from k i (suc m) who (e ∷ es) is at =
    let first : e.row.serial ≡ i = cc in
    let rest : serials_of es ≡ range_with_len (i + 1) m = cc in
    step (e.row.serial == k) refl first rest at (only_from k (i + 1) m who es rest)
  where
    step : (b : Bool) → (e.row.serial == k) ≡ b → e.row.serial ≡ i → serials_of es ≡ range_with_len (i + 1) m
        → option_map (λ e. e.holder) (cond b (Some e) (line_of k es)) ≡ Some who
        → (holder_at k es ≡ Some who → OnlyBy k who es) → OnlyBy k who (e ∷ es)
    step true same first rest at ih = ((λ s. cc), none_by k (i + 1) m who es rest (omega (arith, eqb-true e.row.serial k same, first)))
    step false other first rest at ih = ((λ s. absurd (false≢true (sym other ∙ s))), ih at)

none_from : (k i m : ℕ) (t : List Entry) → serials_of t ≡ range_with_len i m → m + i ≤ k → holder_at k t ≡ None
none_from k i m [] is more = refl
none_from k i zero (e ∷ es) is more = cc
none_from k i (suc m) (e ∷ es) is more =
    let away : (e.row.serial == k) ≡ false = ne_eqb e.row.serial k (λ same. let first : e.row.serial ≡ i = cc in omega arith) in
    ap (λ b. option_map (λ e. e.holder) (cond b (Some e) (line_of k es))) away ∙ none_from k (i + 1) m es (cc) (omega arith)

pub only_by : (l : Ledger) (k : ℕ) (who : Holder) → IsNumbered l → holder_at k (table l) ≡ Some who → OnlyBy k who (table l)
only_by l k who is at = only_from k 1 (serials l) who (table l) is at

-- what is numbered later has no line yet
pub none_later : (l : Ledger) (k : ℕ) → IsNumbered l → serials l < k → holder_at k (table l) ≡ None
none_later l k is more = none_from k 1 (serials l) (table l) is (omega (arith, more))

-- nor has what is numbered next
pub none_next : (l : Ledger) (k : ℕ) → IsNumbered l → k ≡ serials l + 1 → holder_at k (table l) ≡ None
none_next l k is next = none_later l k is (omega (arith, next))

-- what has no line is held by whomever
pub none_only : (k : ℕ) (who : Holder) (t : List Entry) → line_of k t ≡ None → OnlyBy k who t
none_only k who [] none = tt
none_only k who (e ∷ es) none = step (e.row.serial == k) refl none (none_only k who es)
  where
    step : (b : Bool) → (e.row.serial == k) ≡ b → cond b (Some e) (line_of k es) ≡ None → (line_of k es ≡ None → OnlyBy k who es) → OnlyBy k who (e ∷ es)
    step true is none ih = cc
    step false is none ih = ((λ s. absurd (false≢true (sym is ∙ s))), ih none)
