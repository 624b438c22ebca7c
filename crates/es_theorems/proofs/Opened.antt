-- What agents post, what lies in a port, and what buffers are over, are blocks that were opened; and they stay as they are.
use Rattle.std.proofs.Common.{◌≡◌, ℕ, ◌≤◌, ◌==◌, Bool, true, false, cond, sym, ◌∙◌, ap, refl, subst, arith, List, [], ◌∷◌, ◌++◌, drop, Option, Some, None, inl, inr}
use Rattle.std.specs.Prelude.{slice_get}
use Rattle.std.specs.Option.{option_and_then, option_map}
use Rattle.std.proofs.lemmas.Bool.{cases_Bool, eqb-false, eqb-true}
use Rattle.es_event.specs.declared.ledger_event.Body.{Body}
use Rattle.es_event.specs.declared.ledger_event.Body.TheVariants.{Plain, Block}
use Rattle.es_event.specs.declared.ledger_event.LedgerEvent.{LedgerEvent}
use Rattle.es_event.specs.declared.ledger_event.LedgerEvent.TheVariants.{Opened, Posted, Taken, Spent, Accessed, Drained, Acted}
use Rattle.es_event.specs.declared.ledger_event.Act.TheVariants.{Waiting}
use Rattle.es_event.specs.declared.row.Entry.{Entry}
use Rattle.es_event.specs.declared.row.Holder.{Holder}
use Rattle.es_event.specs.declared.row.Holder.TheVariants.{Agent, Nobody}
use Rattle.es_event.specs.declared.row.Row.{Row}
use Rattle.es_event.specs.Ledger.{Ledger, front, holder_of, is_at, moved_if, opened, port_of, posted_line, serial_in, size, table}
use Rattle.es_event.specs.LegalLedger.{LegalSoFar}
use Rattle.es_event.specs.Rows.{held_by, line_of, moved, row}
use Rattle.es_event.specs.Sharing.{Buffers, row_at}
use Rattle.es_event.specs.declared.ledger_event.Act.{Act}
use Rattle.es_match.specs.Deeds.{Deed, Opens, Posts, Spends, Accesses, deed, part, part_of, taking, acting, sleep_of}
use Rattle.es_match.specs.declared.deed.Sleep.{Sleep}
use Rattle.es_ledger.proofs.Made.{Each, IsMade, all_made}
use Rattle.es_theorems.specs.Renamed.{AreOpened, AreSent, IsOpened, IsSent}
use Rattle.es_theorems.proofs.Holding.{held_line, held_taken, line_first, line_moved, line_other, none_moved}
use Rattle.es_theorems.specs.Steps.{AreOver, HasLine, IsOver}
use Rattle.es_theorems.proofs.Names.{grown}
use Rattle.es_theorems.proofs.Others.{size_stays}

-- Messages

last_line : (P : Row → Type 0) (t : List Entry) (x : Entry) → Each P (t ++ x ∷ []) → P x.row
last_line P [] x each = each.0
last_line P (y ∷ t) x each = last_line P t x each.1

-- what is posted is over a block that was opened
posted_opened : (n : ℕ) (l : Ledger) (a r : ℕ) (m : Body) → LegalSoFar n (Posted a r m ∷ l) → IsOpened l m
posted_opened n l a r (Plain v) legal = tt
posted_opened n l a r (Block b k) legal = let made = last_line (IsMade (Posted a r (Block b k) ∷ l)) (table l) _ (all_made n (Posted a r (Block b k) ∷ l) legal) in (let less = made.1 in omega (arith, less))

opened_later : (l : Ledger) (e : LedgerEvent) (m : Body) → IsOpened l m → IsOpened (e ∷ l) m
opened_later l e (Plain v) is = tt
opened_later l e (Block b k) is = omega (arith, is)

-- What was posted

sent_later : (l : Ledger) (e : LedgerEvent) (ds : List Deed) → AreSent l ds → AreSent (e ∷ l) ds
sent_later l e [] are = tt
sent_later l e (d ∷ ds) are = (one d are.0, sent_later l e ds are.1)
  where
    one : (d : Deed) → IsSent l d → IsSent (e ∷ l) d
    one (Posts r m) is = opened_later l e m is
    one _ is = tt

sent_both : (l : Ledger) (ds es : List Deed) → AreSent l ds → AreSent l es → AreSent l (ds ++ es)
sent_both l [] es are more = more
sent_both l (d ∷ ds) es are more = (are.0, sent_both l ds es are.1 more)

sent_if : (l : Ledger) (t : Bool) (d : Deed) → IsSent l d → AreSent l (cond t (d ∷ []) [])
sent_if l true d is = (is, tt)
sent_if l false d is = tt

sent_by_ticket : (l : Ledger) (a : ℕ) (o : Option (ℕ × Row)) (d : Deed) → IsSent l d → AreSent l (part_of a (option_map (λ p. (p.0, d)) o))
sent_by_ticket l a None d is = tt
sent_by_ticket l a (Some p) d is = sent_if l _ d is

act_sent : (m : Ledger) (o : Option Sleep) (act : Act) → IsSent m (acting o act)
act_sent m o (Waiting s) = tt
act_sent m o _ = tt

sent_newest : (n : ℕ) (l : Ledger) (e : LedgerEvent) (a : ℕ) → LegalSoFar n (e ∷ l) → AreSent (e ∷ l) (part_of a (deed l e))
sent_newest n l (Posted t u m) a legal = sent_if (Posted t u m ∷ l) _ (Posts u m) (opened_later l (Posted t u m) m (posted_opened n l t u m legal))
sent_newest n l (Opened b w k c) a legal = sent_if (Opened b w k c ∷ l) _ (Opens b w k) tt
sent_newest n l (Taken t u) a legal = sent_if (Taken t u ∷ l) _ (taking l t (front l t u)) tt
sent_newest n l (Spent k) a legal = sent_by_ticket (Spent k ∷ l) a (holder_of l k) (Spends k) tt
sent_newest n l (Accessed k i m old) a legal = sent_by_ticket (Accessed k i m old ∷ l) a (holder_of l k) (Accesses k i m old) tt
sent_newest n l (Acted c act) a legal = sent_if (Acted c act ∷ l) _ (acting (sleep_of l c) act) (act_sent (Acted c act ∷ l) (sleep_of l c) act)
sent_newest n l (Drained t u) a legal = tt

pub all_sent : (n : ℕ) (l : Ledger) → LegalSoFar n l → (a : ℕ) → AreSent l (part l a)
all_sent n [] legal a = tt
all_sent n (e ∷ l) legal a = sent_both (e ∷ l) (part l a) (part_of a (deed l e)) (sent_later l e (part l a) (all_sent n l legal.1 a)) (sent_newest n l e a legal)

-- What lies in a port

abbrev AllOpened : Ledger → List Body → Type 0
AllOpened l [] = Unit {0}
AllOpened l (m ∷ ms) = IsOpened l m × AllOpened l ms

lies_later : (l : Ledger) (e : LedgerEvent) (ms : List Body) → AllOpened l ms → AllOpened (e ∷ l) ms
lies_later l e [] all = tt
lies_later l e (m ∷ ms) all = (opened_later l e m all.0, lies_later l e ms all.1)

lies_last : (l : Ledger) (ms : List Body) (m : Body) → AllOpened l ms → IsOpened l m → AllOpened l (ms ++ m ∷ [])
lies_last l [] m all is = (is, tt)
lies_last l (x ∷ ms) m all is = (all.0, lies_last l ms m all.1 is)

lies_but_first : (l : Ledger) (ms : List Body) → AllOpened l ms → AllOpened l (drop 1 ms)
lies_but_first l [] all = tt
lies_but_first l (m ∷ ms) all = all.1

lies_either : (l : Ledger) (t : Bool) (ms ns : List Body) → AllOpened l ms → AllOpened l ns → AllOpened l (cond t ms ns)
lies_either l true ms ns x y = x
lies_either l false ms ns x y = y

all_lie : (n : ℕ) (l : Ledger) → LegalSoFar n l → (s r : ℕ) → AllOpened l (port_of l s r)
all_lie n [] legal s r = tt
all_lie n (e ∷ l) legal s r = at e legal (lies_later l e (port_of l s r) (all_lie n l legal.1 s r))
  where
    at : (e : LedgerEvent) → LegalSoFar n (e ∷ l) → AllOpened (e ∷ l) (port_of l s r) → AllOpened (e ∷ l) (port_of (e ∷ l) s r)
    at (Posted t u m) legal old = lies_either (Posted t u m ∷ l) (is_at s r t u) _ _ (lies_last (Posted t u m ∷ l) (port_of l s r) m old (opened_later l (Posted t u m) m (posted_opened n l t u m legal))) old
    at (Taken t u) legal old = lies_either (Taken t u ∷ l) (is_at s r t u) _ _ (lies_but_first (Taken t u ∷ l) (port_of l s r) old) old
    at (Drained t u) legal old = lies_either (Drained t u ∷ l) (is_at s r t u) _ _ (lies_but_first (Drained t u ∷ l) (port_of l s r) old) old
    at _ legal old = old

pub front_opened : (n : ℕ) (l : Ledger) (s r b k : ℕ) → LegalSoFar n l → front l s r ≡ Some (Block b k) → b ≤ opened l
front_opened n l s r b k legal is = at (port_of l s r) (all_lie n l legal s r) is
  where
    at : (ms : List Body) → AllOpened l ms → slice_get ms 0 ≡ Some (Block b k) → b ≤ opened l
    at [] all is = cc
    at (m ∷ ms) all is = let here : IsOpened l (Block b k) = subst (IsOpened l) (let same : m ≡ Block b k = cc in same) all.0 in here

-- A ticket's row stays

moved_row : (k : ℕ) (who : Holder) (t : List Entry) (j : ℕ) (r : Row) → option_map (λ e. e.row) (line_of j t) ≡ Some r → option_map (λ e. e.row) (line_of j (moved k who t)) ≡ Some r
moved_row k who t j r is = by_line (line_of j t) refl is
  where
    by_line : (o : Option Entry) → line_of j t ≡ o → option_map (λ e. e.row) o ≡ Some r → option_map (λ e. e.row) (line_of j (moved k who t)) ≡ Some r
    by_line None at is = cc
    by_line (Some e) at is = elim (cases_Bool (j == k)) [
      | inl here ↦ (let same = eqb-true j k here in ap (λ j. option_map (λ (e : Entry). e.row) (line_of j (moved k who t))) same ∙ ap (option_map (λ e. e.row)) (line_moved k who t e (ap (λ j. line_of j t) (sym same) ∙ at)) ∙ is)
      | inr other ↦ ap (option_map (λ e. e.row)) (line_other j k who t (eqb-false j k other)) ∙ ap (option_map (λ e. e.row)) at ∙ is
    ]

longer_row : (t us : List Entry) (j : ℕ) (r : Row) → option_map (λ e. e.row) (line_of j t) ≡ Some r → option_map (λ e. e.row) (line_of j (t ++ us)) ≡ Some r
longer_row t us j r is = by_line (line_of j t) refl is
  where
    by_line : (o : Option Entry) → line_of j t ≡ o → option_map (λ e. e.row) o ≡ Some r → option_map (λ e. e.row) (line_of j (t ++ us)) ≡ Some r
    by_line None at is = cc
    by_line (Some e) at is = ap (option_map (λ e. e.row)) (line_first j t us e at) ∙ is

line_next : (l : Ledger) (e : LedgerEvent) (r : Row) → HasLine l r → HasLine (e ∷ l) r
line_next l (Opened b w s a) r is = longer_row (table l) _ r.serial r is
line_next l (Posted t u m) r is = longer_row (table l) (posted_line l t u m) r.serial r is
line_next l (Taken t u) r is = by_ticket (option_and_then serial_in (front l t u))
  where
    by_ticket : (o : Option ℕ) → option_map (λ e. e.row) (line_of r.serial (moved_if o (Agent u) (table l))) ≡ Some r
    by_ticket None = is
    by_ticket (Some k) = moved_row k (Agent u) (table l) r.serial r is
line_next l (Spent s) r is = moved_row s Nobody (table l) r.serial r is
line_next l _ r is = is

pub line_later : (es : List LedgerEvent) (l : Ledger) (r : Row) → HasLine l r → HasLine (es ++ l) r
line_later [] l r is = is
line_later (e ∷ es) l r is = line_next (es ++ l) e r (line_later es l r is)

pub line_held : (l : Ledger) (s a : ℕ) (r : Row) → s ≡ r.serial → holder_of l s ≡ Some (a, r) → HasLine l r
line_held l s a r same is = ap (λ k. option_map (λ (e : Entry). e.row) (line_of k (table l))) (sym same) ∙ ap (option_map (λ e. e.row)) (held_line (line_of s (table l)) a r is)

-- that of the ticket in a message
pub line_in_front : (n : ℕ) (l : Ledger) (s i b k : ℕ) → LegalSoFar n l → front l s i ≡ Some (Block b k) → HasLine l (row k b (size l b))
line_in_front n l s i b k legal at = by_line (line_of k (table l)) refl
  where
    after : line_of k (moved k (Agent i) (table l)) ≡ Some (held_by (Agent i) (row k b (size l b)))
    after =
        sym (ap (λ m. line_of k (moved_if (option_and_then serial_in m) (Agent i) (table l))) at)
        ∙ held_line (line_of k (table (Taken s i ∷ l))) i (row k b (size l b)) (held_taken n l s i b k legal at)

    by_line : (o : Option Entry) → line_of k (table l) ≡ o → HasLine l (row k b (size l b))
    by_line None is = (let clash = sym (none_moved k k (Agent i) (table l) is) ∙ after in cc)
    by_line (Some e) is =
        ap (option_map (λ e. e.row)) is ∙ sym (ap (option_map (λ (e : Entry). e.row)) (line_moved k (Agent i) (table l) e is)) ∙ ap (option_map (λ e. e.row)) after

-- Buffers

pub over_opened : (l : Ledger) (over : Buffers) → AreOver l over → AreOpened l over
over_opened l [] are = tt
over_opened l (p ∷ over) are = (are.0.0, over_opened l over are.1)

pub over_later : (n : ℕ) (es : List LedgerEvent) (l : Ledger) → LegalSoFar n (es ++ l) → (over : Buffers) → AreOver l over → AreOver (es ++ l) over
over_later n es l legal [] are = tt
over_later n es l legal (p ∷ over) are =
    let more = grown es l in
    let less = are.0.0 in
    ((omega (arith, more, less), are.0.1 ∙ sym (size_stays n es l legal p.1.block less), line_later es l p.1 are.0.2), over_later n es l legal over are.1)

pub row_over : (l : Ledger) (over : Buffers) (o : ℕ) (r : Row) → AreOver l over → row_at over o ≡ Some r → IsOver l r
row_over l [] o r are is = cc
row_over l (p ∷ over) o r are is = at (p.0 == o) is (row_over l over o r are.1)
  where
    at : (t : Bool) → cond t (Some p.1) (row_at over o) ≡ Some r → (row_at over o ≡ Some r → IsOver l r) → IsOver l r
    at true is rest = subst (IsOver l) (let same : p.1 ≡ r = cc in same) are.0
    at false is rest = rest is
