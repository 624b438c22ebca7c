-- The ticket in a message lies in the port of the message, and as it goes to the receiver, or is spent, the others stay.
use Rattle.std.proofs.Common.{◌≡◌, ℕ, zero, suc, ◌+◌, ◌<◌, ◌==◌, List, [], ◌∷◌, Option, Some, None, Bool, true, false, cond, refl, sym, ap, ◌∙◌, subst, arith, length, eq-eqb}
use Rattle.std.specs.Prelude.{slice_get, slice_index_or, map}
use Rattle.std.specs.List.{Contains, range_with_len}
use Rattle.std.specs.Option.{option_map, option_and_then}
use Rattle.std.proofs.lemmas.Bool.{eqb-true, and_from}
use Rattle.std.proofs.lemmas.List.Sums.{sum_by-cons}
use Rattle.es_event.specs.declared.row.Row.{Row}
use Rattle.es_event.specs.declared.row.Entry.{Entry}
use Rattle.es_event.specs.declared.row.Holder.{Holder}
use Rattle.es_event.specs.declared.row.Holder.TheVariants.{Agent, Port, Nobody}
use Rattle.es_event.specs.Rows.{held_by, is_port, is_somebody, in_port, unspent, count_of, moved, line_of}
use Rattle.es_event.specs.Ledger.{Ledger, serials, table, rows, count, front, serial_in}
use Rattle.es_event.specs.LegalLedger.{LegalSoFar}
use Rattle.es_ledger.specs.declared.message.Letter.{Letter}
use Rattle.es_ledger.specs.declared.message.Letter.TheVariants.{Block}
use Rattle.es_ledger.specs.Letters.{body_of}
use Rattle.es_ledger.specs.Ports.{QueueView, letters_at}
use Rattle.es_ledger.specs.Ties.{row_at, AreNamed, Mail}
use Rattle.es_ledger.proofs.Lines.{OnlyBy, rows_moved}
use Rattle.es_ledger.proofs.Numbered.{serials_of, numbered, none_by, only_by}
use Rattle.es_ledger.proofs.Lying.{lying_all, lies_in_front}
use Rattle.es_ledger.proofs.After.{Without, without_more, count_without, length_without}
use Rattle.es_ledger.proofs.Made.{Each, IsMade, all_made}

-- The oldest letter is what the history says is in front

pub front_is : {L : Type 0} (n : ℕ) (l : Ledger) (ws : List (Option ℕ)) (qs : List (QueueView L)) (s r : ℕ) (x : Letter L) (rest : List (Letter L))
    → Mail n l ws qs → s < n → r < 8 → letters_at qs s r ≡ x ∷ rest → front l s r ≡ Some (body_of x)
front_is n l ws qs s r x rest mail sender receiver is = ap (λ p. slice_get p 0) (sym (mail.ports s r sender receiver) ∙ ap (map body_of) is)

-- The line of its ticket

of_both : (o : Option Entry) (x : Row) (h : Holder) → option_map (λ e. e.row) o ≡ Some x → option_map (λ e. e.holder) o ≡ Some h → o ≡ Some (held_by h x)
of_both None x h rowed held = cc
of_both (Some e) x h rowed held =
    let one : e.row ≡ x = cc in
    let two : e.holder ≡ h = cc in
    ap (λ y. Some (held_by e.holder y)) one ∙ ap (λ k. Some (held_by k x)) two

pub ticket_line : {L : Type 0} (n : ℕ) (l : Ledger) (ws : List (Option ℕ)) (qs : List (QueueView L)) (s r : ℕ) (x : Row) (rest : List (Letter L))
    → LegalSoFar n l → Mail n l ws qs → s < n → r < 8 → letters_at qs s r ≡ Block x ∷ rest → line_of x.serial (table l) ≡ Some (held_by (Port s r) x)
ticket_line {L = L} n l ws qs s r x rest legal mail sender receiver is =
    let at_front = front_is n l ws qs s r (Block x) rest mail sender receiver is in
    let lies = lies_in_front l s r x.serial (lying_all n l legal) (ap (option_and_then serial_in) at_front) in
    of_both (line_of x.serial (table l)) x (Port s r) (named (letters_at qs s r) is (mail.named s r sender receiver)) lies
  where
    named : (q : List (Letter L)) → q ≡ Block x ∷ rest → AreNamed (table l) q → row_at x.serial (table l) ≡ Some x
    named q same are = (subst (AreNamed (table l)) same are).0

-- so it is among the rows of the port
pub in_port_of : (k s r : ℕ) (x : Row) (t : List Entry) → line_of k t ≡ Some (held_by (Port s r) x) → Contains (in_port s r t) x
in_port_of k s r x [] is = cc
in_port_of k s r x (e ∷ es) is = step (e.row.serial == k) is (in_port_of k s r x es)
  where
    here : (b : Bool) → b ≡ true → e.row ≡ x → Contains (cond b (e.row ∷ in_port s r es) (in_port s r es)) x
    here true at same = (0, omega arith, same)
    here false at same = cc

    later : (b : Bool) → Contains (in_port s r es) x → Contains (cond b (e.row ∷ in_port s r es) (in_port s r es)) x
    later true has = (suc has.0, (let below = has.1 in omega (arith, below)), has.2)
    later false has = has

    step : (b : Bool) → cond b (Some e) (line_of k es) ≡ Some (held_by (Port s r) x) → (line_of k es ≡ Some (held_by (Port s r) x) → Contains (in_port s r es) x) → Contains (in_port s r (e ∷ es)) x
    step true is ih =
        let same : e ≡ held_by (Port s r) x = cc in
        here (is_port s r e.holder) (ap (λ y. is_port s r y.holder) same ∙ and_from (s == s) (r == r) (eq-eqb s s refl) (eq-eqb r r refl)) (ap (λ y. y.row) same)
    step false is ih = later (is_port s r e.holder) (ih is)

-- and its words are those of its block
of_line : (P : Row → Type 0) (k : ℕ) (x : Entry) (t : List Entry) → Each P t → line_of k t ≡ Some x → P x.row
of_line P k x [] each is = cc
of_line P k x (e ∷ es) each is = step (e.row.serial == k) is (of_line P k x es each.1)
  where
    step : (b : Bool) → cond b (Some e) (line_of k es) ≡ Some x → (line_of k es ≡ Some x → P x.row) → P x.row
    step true is ih = let same : e ≡ x = cc in subst (λ y. P y.row) same each.0
    step false is ih = ih is

pub made_line : (n : ℕ) (l : Ledger) (k : ℕ) (x : Entry) → LegalSoFar n l → line_of k (table l) ≡ Some x → IsMade l x.row
made_line n l k x legal is = of_line (IsMade l) k x (table l) (all_made n l legal) is

-- It goes to an agent

unspent_moved : (k s r u : ℕ) (t : List Entry) → OnlyBy k (Port s r) t → unspent (moved k (Agent u) t) ≡ unspent t
unspent_moved k s r u [] only = refl
unspent_moved k s r u (e ∷ es) only = step (e.row.serial == k) only.0 (unspent_moved k s r u es only.1)
  where
    step : (b : Bool) → (b ≡ true → e.holder ≡ Port s r) → unspent (moved k (Agent u) es) ≡ unspent es → unspent (cond b (held_by (Agent u) e.row) e ∷ moved k (Agent u) es) ≡ unspent (e ∷ es)
    step true is ih = ap (λ l. e.row ∷ l) ih ∙ sym (ap (λ h. cond (is_somebody h) (e.row ∷ unspent es) (unspent es)) (is refl))
    step false is ih = ap (λ l. cond (is_somebody e.holder) (e.row ∷ l) l) ih

pub taken_unspent : (n : ℕ) (l : Ledger) (s r u : ℕ) (x : Row) → LegalSoFar n l → line_of x.serial (table l) ≡ Some (held_by (Port s r) x) → unspent (moved x.serial (Agent u) (table l)) ≡ unspent (table l)
taken_unspent n l s r u x legal is = unspent_moved x.serial s r u (table l) (only_by l x.serial (Port s r) (numbered n l legal) (ap (option_map (λ e. e.holder)) is))

-- It is spent

leaves : (k i m : ℕ) (x : Entry) (t : List Entry) → serials_of t ≡ range_with_len i m → line_of k t ≡ Some x → is_somebody x.holder ≡ true → Without x.row (unspent t) (unspent (moved k Nobody t))
leaves k i m x [] is by some = cc
leaves k i zero x (e ∷ es) is by some = cc
leaves k i (suc m) x (e ∷ es) is by some =
    let first : e.row.serial ≡ i = cc in
    let rest : serials_of es ≡ range_with_len (i + 1) m = cc in
    step (e.row.serial == k) refl by first rest (λ by. leaves k (i + 1) m x es rest by some)
  where
    step : (b : Bool) → (e.row.serial == k) ≡ b → cond b (Some e) (line_of k es) ≡ Some x → e.row.serial ≡ i → serials_of es ≡ range_with_len (i + 1) m
        → (line_of k es ≡ Some x → Without x.row (unspent es) (unspent (moved k Nobody es)))
        → Without x.row (unspent (e ∷ es)) (unspent (cond b (held_by Nobody e.row) e ∷ moved k Nobody es))
    step true same by first rest ih =
        let is_x : e ≡ x = cc in (
          [],
          unspent es,
          ap (λ b. cond b (e.row ∷ unspent es) (unspent es)) (ap (λ y. is_somebody y.holder) is_x ∙ some) ∙ ap (λ y. y.row ∷ unspent es) is_x,
          rows_moved is_somebody k Nobody Nobody es refl refl (none_by k (i + 1) m Nobody es rest (omega (arith, eqb-true e.row.serial k same, first))),
        )
    step false other by first rest ih = without_more e.row x.row (is_somebody e.holder) _ _ (ih by)

pub drained_without : (n : ℕ) (l : Ledger) (s r : ℕ) (x : Row) → LegalSoFar n l → line_of x.serial (table l) ≡ Some (held_by (Port s r) x) → Without x (unspent (table l)) (unspent (moved x.serial Nobody (table l)))
drained_without n l s r x legal is = leaves x.serial 1 (serials l) (held_by (Port s r) x) (table l) (numbered n l legal) is refl

pub drained_count : (n : ℕ) (l : Ledger) (s r : ℕ) (x : Row) → LegalSoFar n l → line_of x.serial (table l) ≡ Some (held_by (Port s r) x)
    → (b : ℕ) → count l b ≡ cond (x.block == b) 1 0 + count_of (unspent (moved x.serial Nobody (table l))) b
drained_count n l s r x legal is b = count_without b x (rows l) (unspent (moved x.serial Nobody (table l))) (drained_without n l s r x legal is)

pub drained_length : (n : ℕ) (l : Ledger) (s r : ℕ) (x : Row) → LegalSoFar n l → line_of x.serial (table l) ≡ Some (held_by (Port s r) x)
    → length (rows l) ≡ suc (length (unspent (moved x.serial Nobody (table l))))
drained_length n l s r x legal is = length_without x (rows l) (unspent (moved x.serial Nobody (table l))) (drained_without n l s r x legal is)

-- What is in a list of rows counts there

pub counted_in : (rs : List Row) (r : Row) → Contains rs r → 0 < count_of rs r.block
counted_in rs r has = at_place rs has.0 has.1 has.2
  where
    one : (x : Row) (xs : List Row) → x ≡ r → 0 < count_of (x ∷ xs) r.block
    one x xs same =
        let all = sum_by-cons (λ (y : Row). cond {A = ℕ} (y.block == r.block) 1 0) x xs in
        let here : cond {A = ℕ} (x.block == r.block) 1 0 ≡ 1 = ap (λ b. cond {A = ℕ} b 1 0) (eq-eqb x.block r.block (ap (λ (y : Row). y.block) same)) in
        omega (arith, all, here)

    more : (x : Row) (xs : List Row) → 0 < count_of xs r.block → 0 < count_of (x ∷ xs) r.block
    more x xs some = let all = sum_by-cons (λ (y : Row). cond {A = ℕ} (y.block == r.block) 1 0) x xs in omega (arith, all, some)

    at_place : (xs : List Row) (i : ℕ) → i < length xs → slice_index_or xs i r ≡ r → 0 < count_of xs r.block
    at_place [] i below is = absurd (omega (arith, below))
    at_place (x ∷ xs) zero below is = one x xs is
    at_place (x ∷ xs) (suc i) below is = more x xs (at_place xs i (omega (arith, below)) is)
