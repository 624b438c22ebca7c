-- The table by serial: a line more, and a line that gets another holder.
use Rattle.std.proofs.Common.{◌≡◌, ◌≤◌, ◌<◌, ◌+◌, ℕ, zero, suc, List, [], ◌∷◌, ◌++◌, Bool, true, false, cond, ◌==◌, refl, sym, ap, ◌∙◌, subst, eq-eqb, ne_eqb, arith, length, length-append}
use Rattle.std.specs.Prelude.{slice_set, slice_index_or}
use Rattle.std.specs.List.{Contains}
use Rattle.es_event.specs.declared.row.Row.{Row}
use Rattle.es_event.specs.declared.row.Entry.{Entry}
use Rattle.es_event.specs.declared.row.Holder.{Holder}
use Rattle.es_event.specs.declared.row.Holder.TheVariants.{Nobody}
use Rattle.es_event.specs.Rows.{rows_by, moved, held_by}
use Rattle.es_ticket.specs.Numbered.{IsNumberedFrom}
use Rattle.es_ticket.specs.Stakes.{erase, has_serial}
use Rattle.es_ticket.proofs.Rising.{Rising, from_less, absent, erase_middle}

append_nil : (l : List Row) → l ++ [] ≡ l
append_nil [] = refl
append_nil (x ∷ xs) = ap (λ l. x ∷ l) (append_nil xs)

-- the rows of two pieces
pub rows_append : (q : Holder → Bool) (xs ys : List Entry) → rows_by q (xs ++ ys) ≡ rows_by q xs ++ rows_by q ys
rows_append q [] ys = refl
rows_append q (x ∷ xs) ys = by_cases (rows_append q xs ys) (q x.holder)
  where
    by_cases : rows_by q (xs ++ ys) ≡ rows_by q xs ++ rows_by q ys → (t : Bool) → cond t (x.row ∷ rows_by q (xs ++ ys)) (rows_by q (xs ++ ys)) ≡ cond t (x.row ∷ rows_by q xs) (rows_by q xs) ++ rows_by q ys
    by_cases ih true = ap (λ l. x.row ∷ l) ih
    by_cases ih false = ih

-- a line in the middle whose holder passes the test, or doesn't
pub rows_with : (q : Holder → Bool) (h : Holder) (r : Row) (xs ys : List Entry) → q h ≡ true → rows_by q (xs ++ held_by h r ∷ ys) ≡ rows_by q xs ++ r ∷ rows_by q ys
rows_with q h r xs ys here = rows_append q xs (held_by h r ∷ ys) ∙ ap (λ t. rows_by q xs ++ cond t (r ∷ rows_by q ys) (rows_by q ys)) here

pub rows_without : (q : Holder → Bool) (h : Holder) (r : Row) (xs ys : List Entry) → q h ≡ false → rows_by q (xs ++ held_by h r ∷ ys) ≡ rows_by q xs ++ rows_by q ys
rows_without q h r xs ys away = rows_append q xs (held_by h r ∷ ys) ∙ ap (λ t. rows_by q xs ++ cond t (r ∷ rows_by q ys) (rows_by q ys)) away

-- the rows that a test finds rise
pub rows_rise : (q : Holder → Bool) (n : ℕ) (es : List Entry) → IsNumberedFrom n es → Rising n (rows_by q es)
rows_rise q n [] h = tt
rows_rise q n (e ∷ es) h = one (q e.holder) (rows_rise q (n + 1) es h.1)
  where
    one : (t : Bool) → Rising (n + 1) (rows_by q es) → Rising n (cond t (e.row ∷ rows_by q es) (rows_by q es))
    one true ih = ((let a = h.0 in omega arith), subst (λ m. Rising (m + 1) (rows_by q es)) (sym h.0) ih)
    one false ih = from_less n (n + 1) (rows_by q es) (omega arith) ih

-- One line more

pub numbered_append : (n : ℕ) (es : List Entry) (e : Entry) → e.row.serial ≡ n + length es → IsNumberedFrom n es → IsNumberedFrom n (es ++ e ∷ [])
numbered_append n [] e next h = ((omega arith), tt)
numbered_append n (x ∷ xs) e next h = (h.0, numbered_append (n + 1) xs e (omega arith) h.1)

pub rows_more : (q : Holder → Bool) (who : Holder) (r : Row) (es : List Entry) → q who ≡ true → rows_by q (es ++ held_by who r ∷ []) ≡ rows_by q es ++ r ∷ []
rows_more q who r es here = rows_with q who r es [] here

pub rows_same : (q : Holder → Bool) (who : Holder) (r : Row) (es : List Entry) → q who ≡ false → rows_by q (es ++ held_by who r ∷ []) ≡ rows_by q es
rows_same q who r es away = rows_without q who r es [] away ∙ append_nil (rows_by q es)

-- the next serial is new
pub rows_lack : (q : Holder → Bool) (who : Holder) (n : ℕ) (r : Row) (es : List Entry) → q who ≡ true → r.serial ≡ n + length es → IsNumberedFrom n es → has_serial r.serial (rows_by q es) ≡ false
rows_lack q who n r es here next h =
    ap (has_serial r.serial) (sym (append_nil (rows_by q es)))
    ∙ absent n (rows_by q es) [] r (subst (Rising n) (rows_more q who r es here) (rows_rise q n (es ++ held_by who r ∷ []) (numbered_append n es (held_by who r) next h)))

-- Another holder

pub numbered_moved : (n s : ℕ) (who : Holder) (es : List Entry) → IsNumberedFrom n es → IsNumberedFrom n (moved s who es)
numbered_moved n s who [] h = tt
numbered_moved n s who (e ∷ es) h = (one (e.row.serial == s), numbered_moved (n + 1) s who es h.1)
  where
    one : (t : Bool) → (cond t (held_by who e.row) e).row.serial ≡ n
    one true = h.0
    one false = h.0

-- lines of other serials stay
moved_below : (n s : ℕ) (who : Holder) (es : List Entry) → s < n → IsNumberedFrom n es → moved s who es ≡ es
moved_below n s who [] less h = refl
moved_below n s who (e ∷ es) less h =
    ap (λ t. cond t (held_by who e.row) e ∷ moved s who es) (ne_eqb e.row.serial s (λ x. let a = h.0 in omega arith)) ∙ ap (λ l. e ∷ l) (moved_below (n + 1) s who es (omega arith) h.1)

-- the change in place
pub moved_set : (n k s : ℕ) (who : Holder) (e : Entry) (es : List Entry) → s ≡ n + k → k < length es → IsNumberedFrom n es → e ≡ slice_index_or es k e
    → slice_set es k (held_by who e.row) ≡ moved s who es
moved_set n k s who e [] is less h same = absurd (omega arith)
moved_set n zero s who e (x ∷ xs) is less h same =
    let here : x.row.serial ≡ s = (let a = h.0 in omega arith) in
    ap (λ y. held_by who y.row ∷ xs) same
    ∙ sym (ap (λ t. cond t (held_by who x.row) x ∷ moved s who xs) (eq-eqb x.row.serial s here) ∙ ap (λ l. held_by who x.row ∷ l) (moved_below (n + 1) s who xs (omega arith) h.1))
moved_set n (suc k) s who e (x ∷ xs) is less h same =
    ap (λ l. x ∷ l) (moved_set (n + 1) k s who e xs (omega arith) (omega arith) h.1 same)
    ∙ sym (ap (λ t. cond t (held_by who x.row) x ∷ moved s who xs) (ne_eqb x.row.serial s (λ y. let a = h.0 in omega arith)))

-- the serial of a line is its place
numbered_middle : (n : ℕ) (xs ys : List Entry) (e : Entry) → IsNumberedFrom n (xs ++ e ∷ ys) → e.row.serial ≡ n + length xs
numbered_middle n [] ys e h = (let a = h.0 in omega arith)
numbered_middle n (x ∷ xs) ys e h = (let a = numbered_middle (n + 1) xs ys e h.1 in omega arith)

-- where a row lies, and the table after its ticket went to another holder
pub record Lies (q : Holder → Bool) (who : Holder) (r : Row) (es : List Entry) : Type 0 where
  pub before : List Entry
  pub behind : List Entry
  pub holder : Holder
  pub passes : q holder ≡ true
  pub is : es ≡ before ++ held_by holder r ∷ behind
  pub goes : moved r.serial who es ≡ before ++ held_by who r ∷ behind

pub lies : (q : Holder → Bool) (n : ℕ) (who : Holder) (r : Row) (es : List Entry) → IsNumberedFrom n es → Contains (rows_by q es) r → Lies q who r es
lies q n who r [] h c = let less = c.1 in absurd (omega arith)
lies q n who r (e ∷ es) h c = one (λ c'. lies q (n + 1) who r es h.1 c') (q e.holder) refl c
  where
    here : q e.holder ≡ true → e.row ≡ r → Lies q who r (e ∷ es)
    here passes same = record {
      before = [];
      behind = es;
      holder = e.holder;
      passes = passes;
      is = ap (λ x. held_by e.holder x ∷ es) same;
      goes = ap (λ t. cond t (held_by who e.row) e ∷ moved r.serial who es) (eq-eqb e.row.serial r.serial (ap (λ x. x.serial) same))
          ∙ ap (λ x. held_by who x ∷ moved r.serial who es) same
          ∙ ap (λ l. held_by who r ∷ l) (moved_below (n + 1) r.serial who es (let a = h.0 in let b = ap (λ x. x.serial) same in omega arith) h.1);
    }

    there : Lies q who r es → Lies q who r (e ∷ es)
    there l = record {
      before = e ∷ l.before;
      behind = l.behind;
      holder = l.holder;
      passes = l.passes;
      is = ap (λ x. e ∷ x) l.is;
      goes =
          (let at = numbered_middle (n + 1) l.before l.behind (held_by l.holder r) (subst (IsNumberedFrom (n + 1)) l.is h.1) in
          ap (λ t. cond t (held_by who e.row) e ∷ moved r.serial who es) (ne_eqb e.row.serial r.serial (λ x. let a = h.0 in omega arith)))
          ∙ ap (λ x. e ∷ x) l.goes;
    }

    one : (Contains (rows_by q es) r → Lies q who r es) → (t : Bool) → q e.holder ≡ t → Contains (cond t (e.row ∷ rows_by q es) (rows_by q es)) r → Lies q who r (e ∷ es)
    one behind true passes (zero, less, same) = here passes same
    one behind true passes (suc k, less, same) = there (behind (k, (omega arith), same))
    one behind false away c' = there (behind c')

-- What the move does to lists

-- the ticket's serial is that of a line
pub in_table : (q : Holder → Bool) (r : Row) (es : List Entry) → IsNumberedFrom 1 es → Contains (rows_by q es) r → (0 < r.serial) × (r.serial ≤ length es)
in_table q r es h c =
    let l = lies q 1 Nobody r es h c in
    let at = numbered_middle 1 l.before l.behind (held_by l.holder r) (subst (IsNumberedFrom 1) l.is h) in
    let len = ap length l.is ∙ length-append l.before (held_by l.holder r ∷ l.behind) in
    ((omega arith), (omega arith))

-- lists that have the row neither before nor after
pub others_keep : (p q : Holder → Bool) (n : ℕ) (who : Holder) (r : Row) (es : List Entry) → IsNumberedFrom n es → Contains (rows_by p es) r
    → ((h : Holder) → p h ≡ true → q h ≡ false) → q who ≡ false → rows_by q (moved r.serial who es) ≡ rows_by q es
others_keep p q n who r es h c apart away =
    let l = lies p n who r es h c in
    ap (rows_by q) l.goes ∙ rows_without q who r l.before l.behind away ∙ sym (ap (rows_by q) l.is ∙ rows_without q l.holder r l.before l.behind (apart l.holder l.passes))

-- the list that it leaves
pub leaves : (q : Holder → Bool) (n : ℕ) (who : Holder) (r : Row) (es : List Entry) → IsNumberedFrom n es → Contains (rows_by q es) r → q who ≡ false
    → rows_by q (moved r.serial who es) ≡ erase r.serial (rows_by q es)
leaves q n who r es h c away =
    let l = lies q n who r es h c in
    let was = ap (rows_by q) l.is ∙ rows_with q l.holder r l.before l.behind l.passes in
    ap (rows_by q) l.goes ∙ rows_without q who r l.before l.behind away
    ∙ sym (ap (erase r.serial) was ∙ erase_middle n (rows_by q l.before) (rows_by q l.behind) r (subst (Rising n) was (rows_rise q n es h)))

-- the list to which it comes
pub record Comes (q : Holder → Bool) (who : Holder) (r : Row) (es : List Entry) : Type 0 where
  pub before : List Row
  pub behind : List Row
  pub was : rows_by q es ≡ before ++ behind
  pub now : rows_by q (moved r.serial who es) ≡ before ++ r ∷ behind
  pub lacked : has_serial r.serial (rows_by q es) ≡ false

pub comes : (p q : Holder → Bool) (n : ℕ) (who : Holder) (r : Row) (es : List Entry) → IsNumberedFrom n es → Contains (rows_by p es) r
    → ((h : Holder) → p h ≡ true → q h ≡ false) → q who ≡ true → Comes q who r es
comes p q n who r es h c apart here =
    let l = lies p n who r es h c in
    let was = ap (rows_by q) l.is ∙ rows_without q l.holder r l.before l.behind (apart l.holder l.passes) in
    let now = ap (rows_by q) l.goes ∙ rows_with q who r l.before l.behind here in
    record {
      before = rows_by q l.before;
      behind = rows_by q l.behind;
      was = was;
      now = now;
      lacked = ap (has_serial r.serial) was ∙ absent n (rows_by q l.before) (rows_by q l.behind) r (subst (Rising n) now (rows_rise q n (moved r.serial who es) (numbered_moved n r.serial who es h)));
    }
