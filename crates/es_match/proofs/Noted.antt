-- The pass of a pass say what the history says, after one more event.
use Rattle.std.proofs.Common.{append-nil}
use Rattle.std.proofs.Common.{◌≡◌, ℕ, Bool, true, false, true≢false, ◌||◌, ◌==◌, List, [], ◌∷◌, ◌++◌, Option, Some, None, refl, sym, ◌∙◌, ap, if◌then◌else◌, eqb-true, eq-eqb}
use Rattle.std.specs.Option.{option_and_then, option_map, option_map_or}
use Rattle.es_event.specs.declared.ledger_event.Body.{Body}
use Rattle.es_event.specs.declared.ledger_event.Body.TheVariants.{Plain, Block}
use Rattle.es_event.specs.declared.ledger_event.LedgerEvent.{LedgerEvent}
use Rattle.es_event.specs.declared.ledger_event.LedgerEvent.TheVariants.{Opened, Posted, Taken, Spent, Acted}
use Rattle.es_event.specs.declared.row.Entry.{Entry}
use Rattle.es_event.specs.declared.row.Holder.{Holder}
use Rattle.es_event.specs.declared.row.Holder.TheVariants.{Agent, Nobody}
use Rattle.es_event.specs.Rows.{held_by, moved, line_of}
use Rattle.es_event.specs.Ledger.{Ledger, front, serial_in, table, moved_if, posted_line, awaited, newest_size, opens, queued}
use Rattle.es_match.specs.declared.ledger_pass.LedgerPass.{LedgerPass}
use Rattle.es_event.specs.Totals.{is_drained}
use Rattle.es_match.specs.Deeds.{sleep_of}
use Rattle.es_match.specs.LedgerPass.{Says, sleep_in, line_in, size_in, sleeps_on, waits_in, port_in, put_line, move_line, post_line, taken_by, words_by, line_after}

-- One serial's line

pub line_added : (t : List Entry) (e : Entry) (q : ℕ) → line_of q (t ++ e ∷ []) ≡ put_line e q (line_of q t)
line_added [] e q = refl
line_added (x ∷ xs) e q = case-of (x.row.serial == q) (line_added xs e q)
  where
    case-of : (b : Bool) → line_of q (xs ++ e ∷ []) ≡ put_line e q (line_of q xs)
        → (if b then Some x else line_of q (xs ++ e ∷ [])) ≡ put_line e q (if b then Some x else line_of q xs)
    case-of true i = refl
    case-of false i = i

abbrev handed : ℕ → Holder → Entry → Entry
handed k who x = if x.row.serial == k then held_by who x.row else x

same_serial : (k : ℕ) (who : Holder) (x : Entry) → (handed k who x).row.serial ≡ x.row.serial
same_serial k who x = case-of (x.row.serial == k)
  where
    case-of : (b : Bool) → (if b then held_by who x.row else x).row.serial ≡ x.row.serial
    case-of true = refl
    case-of false = refl

no_move : (k : ℕ) (who : Holder) (q : ℕ) → None ≡ move_line k who q None
no_move k who q = case-of (k == q)
  where
    case-of : (b : Bool) → None ≡ (if b then option_map (λ (e : Entry). held_by who e.row) None else None)
    case-of true = refl
    case-of false = refl

handed_line : (k : ℕ) (who : Holder) (q : ℕ) (x : Entry) → x.row.serial ≡ q → Some (handed k who x) ≡ move_line k who q (Some x)
handed_line k who q x is = rw (← is) (case-of (x.row.serial == k) (k == x.row.serial) refl refl)
  where
    case-of : (b c : Bool) → (x.row.serial == k) ≡ b → (k == x.row.serial) ≡ c
        → Some (if b then held_by who x.row else x) ≡ (if c then option_map (λ e. held_by who e.row) (Some x) else Some x)
    case-of true true p q = refl
    case-of false false p q = refl
    case-of true false p q = absurd (true≢false (sym (eq-eqb k x.row.serial (sym (eqb-true _ _ p))) ∙ q))
    case-of false true p q = absurd (true≢false (sym (eq-eqb x.row.serial k (sym (eqb-true _ _ q))) ∙ p))

pub line_moved : (k : ℕ) (who : Holder) (t : List Entry) (q : ℕ) → line_of q (moved k who t) ≡ move_line k who q (line_of q t)
line_moved k who [] q = no_move k who q
line_moved k who (x ∷ xs) q = rw (same_serial k who x) (case-of (x.row.serial == q) refl (line_moved k who xs q))
  where
    case-of : (b : Bool) → (x.row.serial == q) ≡ b → line_of q (moved k who xs) ≡ move_line k who q (line_of q xs)
        → (if b then Some (handed k who x) else line_of q (moved k who xs)) ≡ move_line k who q (if b then Some x else line_of q xs)
    case-of true is i = handed_line k who q x (eqb-true _ _ is)
    case-of false is i = i

posted_said : (l : Ledger) (a r : ℕ) (body : Body) (t : List Entry) (q : ℕ)
    → line_of q (t ++ posted_line l a r body) ≡ post_line (words_by l (Posted a r body)) a r body q (line_of q t)
posted_said l a r (Plain v) t q = ap (line_of q) (append-nil t)
posted_said l a r (Block b s) t q = line_added t _ q

moved_said : (o : Option ℕ) (who : Holder) (t : List Entry) (q : ℕ)
    → line_of q (moved_if o who t) ≡ option_map_or (λ k. move_line k who q (line_of q t)) o (line_of q t)
moved_said None who t q = refl
moved_said (Some k) who t q = line_moved k who t q

pub line_said : (l : Ledger) (e : LedgerEvent) (q : ℕ)
    → line_of q (table (e ∷ l)) ≡ line_after (taken_by l e) (words_by l e) e q (line_of q (table l))
line_said l (Opened b w s a) q = line_added (table l) _ q
line_said l (Posted a r body) q = posted_said l a r body (table l) q
line_said l (Taken s r) q = moved_said (option_and_then serial_in (front l s r)) (Agent r) (table l) q
line_said l (Spent s) q = line_moved s Nobody (table l) q
line_said l _ q = refl

-- The sleep of an agent

sleeps_said : (l : Ledger) (e : LedgerEvent) (a : ℕ) → sleeps_on e a (sleep_of l a) ≡ sleep_of (e ∷ l) a
sleeps_said l (Acted c d) a = refl
sleeps_said l _ a = refl

-- All pass

pub noted : (l : Ledger) (e : LedgerEvent) (t u : LedgerPass) (m : Option Body) (w : ℕ) → Says l t → m ≡ taken_by l e → w ≡ words_by l e
    → ((q : ℕ) → line_in u.lines q ≡ line_after m w e q (line_in t.lines q))
    → ((b : ℕ) → size_in u.sizes b ≡ newest_size (opens e) b (size_in t.sizes b))
    → ((s r : ℕ) → port_in u.mail s r ≡ queued e s r (port_in t.mail s r))
    → ((a : ℕ) → waits_in u.waiting a ≡ awaited e a (waits_in t.waiting a))
    → ((a : ℕ) → sleep_in u.sleeping a ≡ sleeps_on e a (sleep_in t.sleeping a))
    → u.drained ≡ (is_drained e || t.drained) → Says (e ∷ l) u
noted l e t u m w says taken words lines sizes mail waiting sleeping drains_now = record {
  lines = λ q. lines q ∙ ap (λ x. line_after m w e q x) (says.lines q) ∙ ap (λ x. line_after x w e q (line_of q (table l))) taken
      ∙ ap (λ x. line_after (taken_by l e) x e q (line_of q (table l))) words ∙ sym (line_said l e q);
  sizes = λ b. sizes b ∙ ap (newest_size (opens e) b) (says.sizes b);
  mail = λ s r. mail s r ∙ ap (queued e s r) (says.mail s r);
  waiting = λ a. waiting a ∙ ap (awaited e a) (says.waiting a);
  sleeping = λ a. sleeping a ∙ ap (sleeps_on e a) (says.sleeping a) ∙ sleeps_said l e a;
  drains = drains_now ∙ ap (λ x. is_drained e || x) says.drains;
}
