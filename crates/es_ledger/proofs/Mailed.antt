-- In a legal history a ticket that lies in a port is that of a message there, or is owed; so where nobody holds anything, no ticket is left.
use Rattle.std.proofs.Common.{◌≡◌, ◌≢◌, ◌⊎◌, ⊎_elim, inl, inr, ℕ, zero, suc, ◌+◌, ◌<◌, ◌≤◌, ◌==◌, ◌||◌, List, [], ◌∷◌, ◌++◌, drop, Option, Some, None, Bool, true, false, cond, refl, sym, ap, ◌∙◌, subst, arith, eq-eqb, ne_eqb}
use Rattle.std.specs.Prelude.{slice_get}
use Rattle.std.specs.List.{range_with_len}
use Rattle.std.specs.Option.{option_map, option_and_then}
use Rattle.std.proofs.lemmas.Bool.{eqb-true, false≢true, and_parts, and_from, or_cases, or_left, or_right}
use Rattle.es_event.specs.declared.ledger_event.Body.{Body}
use Rattle.es_event.specs.declared.ledger_event.Body.TheVariants.{Plain, Block}
use Rattle.es_event.specs.declared.ledger_event.LedgerEvent.{LedgerEvent}
use Rattle.es_event.specs.declared.ledger_event.LedgerEvent.TheVariants.{Opened, Posted, Taken, Spent, Drained}
use Rattle.es_event.specs.declared.row.Row.{Row}
use Rattle.es_event.specs.declared.row.Entry.{Entry}
use Rattle.es_event.specs.declared.row.Holder.{Holder}
use Rattle.es_event.specs.declared.row.Holder.TheVariants.{Agent, Port, Nobody}
use Rattle.es_event.specs.Rows.{row, held_by, held, moved, line_of, unspent, count_of}
use Rattle.es_event.specs.Ledger.{Ledger, serials, table, count, port_of, is_at, front, serial_in, size, posted_line, moved_if}
use Rattle.es_event.specs.LegalLedger.{ComesNext, LegalSoFar, owed}
use Rattle.es_ledger.proofs.Lines.{holder_at, at_other, at_first, at_last}
use Rattle.es_ledger.proofs.Numbered.{serials_of, numbered}
use Rattle.es_ledger.proofs.Within.{IsWithin, AllWithin, within_all}

-- Messages

-- the ticket in the message has this serial
abbrev pub has_ticket : ℕ → Body → Bool
has_ticket k (Plain v) = false
has_ticket k (Block b j) = j == k

-- one of the messages has the ticket
abbrev pub is_among : ℕ → List Body → Bool
is_among k [] = false
is_among k (m ∷ q) = has_ticket k m || is_among k q

among_more : (k : ℕ) (q : List Body) (m : Body) → is_among k q ≡ true → is_among k (q ++ m ∷ []) ≡ true
among_more k [] m e = cc
among_more k (x ∷ q) m e =
    ⊎_elim (λ here. or_left (has_ticket k x) (is_among k (q ++ m ∷ [])) here) (λ later. or_right (has_ticket k x) (is_among k (q ++ m ∷ [])) (among_more k q m later))
    (or_cases (has_ticket k x) (is_among k q) e)

among_last : (k b j : ℕ) (q : List Body) → j ≡ k → is_among k (q ++ Block b j ∷ []) ≡ true
among_last k b j [] same = or_left (j == k) false (eq-eqb j k same)
among_last k b j (x ∷ q) same = or_right (has_ticket k x) (is_among k (q ++ Block b j ∷ [])) (among_last k b j q same)

-- it is the oldest message's, or that of one of the others
first_or_later : (k : ℕ) (q : List Body) → is_among k q ≡ true → (option_and_then serial_in (slice_get q 0) ≡ Some k) ⊎ (is_among k (drop 1 q) ≡ true)
first_or_later k [] e = cc
first_or_later k (Plain v ∷ q) e = inr e
first_or_later k (Block b j ∷ q) e = ⊎_elim (λ first. inl (ap Some (eqb-true j k first))) (λ later. inr later) (or_cases (j == k) (is_among k q) e)

-- Lines

-- a line of a longer table stood there before, or is new
old_or_new : (k : ℕ) (h : Holder) (t us : List Entry) → holder_at k (t ++ us) ≡ Some h → (holder_at k t ≡ Some h) ⊎ (holder_at k us ≡ Some h)
old_or_new k h t us at = step (holder_at k t) refl
  where
    step : (o : Option Holder) → holder_at k t ≡ o → (holder_at k t ≡ Some h) ⊎ (holder_at k us ≡ Some h)
    step None none = inr (sym (at_last k t us none) ∙ at)
    step (Some g) some = inl (some ∙ sym (at_first k g t us some) ∙ at)

on_line : (k : ℕ) (x : Row) (h g : Holder) → holder_at k (held_by h x ∷ []) ≡ Some g → (x.serial ≡ k) × (h ≡ g)
on_line k x h g at = step (x.serial == k) refl at
  where
    step : (b : Bool) → (x.serial == k) ≡ b → option_map (λ (e : Entry). e.holder) (cond b (Some (held_by h x)) None) ≡ Some g → (x.serial ≡ k) × (h ≡ g)
    step true same at = (eqb-true x.serial k same, cc)
    step false other at = cc

-- what has moved is with its new holder
at_new : (k : ℕ) (who h : Holder) (t : List Entry) → holder_at k (moved k who t) ≡ Some h → who ≡ h
at_new k who h [] at = cc
at_new k who h (e ∷ es) at = step (e.row.serial == k) refl at (at_new k who h es)
  where
    first : Entry → Bool → Option Holder
    first x b = option_map (λ e. e.holder) (cond b (Some x) (line_of k (moved k who es)))

    step : (b : Bool) → (e.row.serial == k) ≡ b → holder_at k (cond b (held_by who e.row) e ∷ moved k who es) ≡ Some h → (holder_at k (moved k who es) ≡ Some h → who ≡ h) → who ≡ h
    step true same at ih = let here : Some who ≡ Some h = sym (ap (first (held_by who e.row)) same) ∙ at in cc
    step false other at ih = ih (sym (ap (first e) other) ∙ at)

-- what is with another holder after a move has not moved
has_stayed : (j k : ℕ) (who h : Holder) (t : List Entry) → (who ≡ h → ⊥) → holder_at j (moved k who t) ≡ Some h → (j ≢ k) × (holder_at j t ≡ Some h)
has_stayed j k who h t unlike at =
    let apart : j ≢ k = λ same. unlike (at_new k who h t (sym (ap (λ i. holder_at i (moved k who t)) same) ∙ at)) in
    (apart, sym (at_other j k who t apart) ∙ at)

still_in_port : (o : Option ℕ) (u k s r : ℕ) (t : List Entry) → holder_at k (moved_if o (Agent u) t) ≡ Some (Port s r) → (o ≡ Some k → ⊥) × (holder_at k t ≡ Some (Port s r))
still_in_port None u k s r t at = ((λ e. cc), at)
still_in_port (Some j) u k s r t at =
    let stayed = has_stayed k j (Agent u) (Port s r) t (λ e. cc) at in
    ((λ e. stayed.0 (let same : k ≡ j = cc in same)), stayed.1)

-- Each event

-- a ticket in a port is that of a message there, or the one that is owed
abbrev pub IsMailed : Ledger → Type 0
IsMailed l = (k s r : ℕ) → holder_at k (table l) ≡ Some (Port s r) → (is_among k (port_of l s r) ≡ true) ⊎ (owed l ≡ Some k)

-- where nothing is owed
among : (l : Ledger) (k s r : ℕ) → owed l ≡ None → IsMailed l → holder_at k (table l) ≡ Some (Port s r) → is_among k (port_of l s r) ≡ true
among l k s r owes mail at = ⊎_elim (λ e. e) (λ e. absurd (let none : None ≡ Some k = sym owes ∙ e in cc)) (mail k s r at)

-- where a message is posted
among_posted : (b : Bool) (k : ℕ) (q : List Body) (m : Body) → is_among k q ≡ true → is_among k (cond b (q ++ m ∷ []) q) ≡ true
among_posted true k q m e = among_more k q m e
among_posted false k q m e = e

new_posted : (l : Ledger) (t u : ℕ) (m : Body) (k s r : ℕ) → holder_at k (posted_line l t u m) ≡ Some (Port s r)
    → is_among k (cond (is_at s r t u) (port_of l s r ++ m ∷ []) (port_of l s r)) ≡ true
new_posted l t u (Plain v) k s r at = cc
new_posted l t u (Block b j) k s r at =
    let new = on_line k (row j b (size l b)) (Port t u) (Port s r) at in
    let port : Port t u ≡ Port s r = new.1 in
    let sender : s ≡ t = cc in
    let receiver : r ≡ u = cc in
    let here : is_at s r t u ≡ true = and_from (s == t) (r == u) (eq-eqb s t sender) (eq-eqb r u receiver) in
    ap (λ c. is_among k (cond c (port_of l s r ++ Block b j ∷ []) (port_of l s r))) here ∙ among_last k b j (port_of l s r) new.0

-- where the oldest message is taken or drained
among_left : (l : Ledger) (t u k s r : ℕ) → is_among k (port_of l s r) ≡ true
    → (is_among k (cond (is_at s r t u) (drop 1 (port_of l s r)) (port_of l s r)) ≡ true) ⊎ (option_and_then serial_in (front l t u) ≡ Some k)
among_left l t u k s r e = step (is_at s r t u) refl
  where
    step : (b : Bool) → is_at s r t u ≡ b → (is_among k (cond b (drop 1 (port_of l s r)) (port_of l s r)) ≡ true) ⊎ (option_and_then serial_in (front l t u) ≡ Some k)
    step true here =
        let parts = and_parts (s == t) (r == u) here in
        let port : option_and_then serial_in (front l t u) ≡ option_and_then serial_in (front l s r) =
        sym (ap (λ i. option_and_then serial_in (front l i r)) (eqb-true s t parts.0) ∙ ap (λ i. option_and_then serial_in (front l t i)) (eqb-true r u parts.1)) in
        ⊎_elim (λ first. inr (port ∙ first)) (λ later. inl later) (first_or_later k (port_of l s r) e)
    step false off = inl e

mailed_spent : (l : Ledger) (k : ℕ) → ((j : ℕ) → j ≢ k → owed l ≡ Some j → ⊥) → IsMailed l → IsMailed (Spent k ∷ l)
mailed_spent l k no_other mail j s r at =
    let stayed = has_stayed j k Nobody (Port s r) (table l) (λ e. cc) at in
    ⊎_elim (λ e. inl e) (λ e. absurd (no_other j stayed.0 e)) (mail j s r stayed.1)

mailed_next : (n : ℕ) (l : Ledger) (e : LedgerEvent) (o : Option ℕ) → owed l ≡ o → ComesNext n l e o → IsMailed l → IsMailed (e ∷ l)
mailed_next n l e (Some k) owes c mail =
    subst (λ e. IsMailed (e ∷ l)) (sym c) (mailed_spent l k (λ j other owes_j. other (let both : Some k ≡ Some j = sym owes ∙ owes_j in cc)) mail)
mailed_next n l (Opened b w i a) None owes c mail = λ k s r at.
    ⊎_elim (λ old. inl (among l k s r owes mail old)) (λ new. absurd (let line = on_line k (row i b w) (Agent a) (Port s r) new in let port : Agent a ≡ Port s r = line.1 in cc))
    (old_or_new k (Port s r) (table l) (held_by (Agent a) (row i b w) ∷ []) at)
mailed_next n l (Posted t u m) None owes c mail = λ k s r at.
    inl (⊎_elim (λ old. among_posted (is_at s r t u) k (port_of l s r) m (among l k s r owes mail old)) (λ new. new_posted l t u m k s r new)
    (old_or_new k (Port s r) (table l) (posted_line l t u m) at))
mailed_next n l (Taken t u) None owes c mail = λ k s r at.
    let still = still_in_port (option_and_then serial_in (front l t u)) u k s r (table l) at in
    inl (⊎_elim (λ e. e) (λ first. absurd (still.0 first)) (among_left l t u k s r (among l k s r owes mail still.1)))
mailed_next n l (Spent k) None owes c mail = mailed_spent l k (λ j other owes_j. let none : None ≡ Some j = sym owes ∙ owes_j in cc) mail
mailed_next n l (Drained t u) None owes c mail = λ k s r at. among_left l t u k s r (among l k s r owes mail at)
mailed_next n l _ None owes c mail = λ k s r at. inl (among l k s r owes mail at)

pub mailed : (n : ℕ) (l : Ledger) → LegalSoFar n l → (k s r : ℕ) → holder_at k (table l) ≡ Some (Port s r) → (is_among k (port_of l s r) ≡ true) ⊎ (owed l ≡ Some k)
mailed n [] legal = λ k s r at. cc
mailed n (e ∷ l) legal = mailed_next n l e (owed l) refl legal.0 (mailed n l legal.1)

-- Where nobody holds anything

-- what stands in lines that are numbered from i is i or more
above : (k i m : ℕ) (h : Holder) (t : List Entry) → serials_of t ≡ range_with_len i m → holder_at k t ≡ Some h → i ≤ k
above k i m h [] is at = cc
above k i zero h (e ∷ es) is at = cc
above k i (suc m) h (e ∷ es) is at =
    let first : e.row.serial ≡ i = cc in
    step (e.row.serial == k) refl first at (above k (i + 1) m h es (cc))
  where
    step : (b : Bool) → (e.row.serial == k) ≡ b → e.row.serial ≡ i → option_map (λ e. e.holder) (cond b (Some e) (line_of k es)) ≡ Some h → (holder_at k es ≡ Some h → i + 1 ≤ k) → i ≤ k
    step true same first at ih = omega (arith, eqb-true e.row.serial k same, first)
    step false other first at ih = omega (arith, ih at)

-- so what is found in the lines after the first is found in all of them
later : (k i m : ℕ) (h : Holder) (e : Entry) (es : List Entry) → e.row.serial ≡ i → serials_of es ≡ range_with_len (i + 1) m → holder_at k es ≡ Some h → holder_at k (e ∷ es) ≡ Some h
later k i m h e es first rest at =
    let less = above k (i + 1) m h es rest at in
    ap (λ b. option_map (λ e. e.holder) (cond b (Some e) (line_of k es))) (ne_eqb e.row.serial k (λ same. omega (arith, same, first, less))) ∙ at

-- a line that is with no agent and in no port is nobody's
nobodys : (n : ℕ) (x : Row) (h : Holder) (es : List Entry) → IsWithin n h → ((a : ℕ) → a < n → held a (held_by h x ∷ es) ≡ [])
    → ((s r : ℕ) → holder_at x.serial (held_by h x ∷ es) ≡ Some (Port s r) → ⊥) → (((a : ℕ) → a < n → held a es ≡ []) → unspent es ≡ []) → unspent (held_by h x ∷ es) ≡ []
nobodys n x (Agent a) es within free clear rest = let some : x ∷ held a es ≡ [] = sym (ap (λ b. cond b (x ∷ held a es) (held a es)) (eq-eqb a a refl)) ∙ free a within in cc
nobodys n x (Port s r) es within free clear rest =
    absurd (clear s r (ap (λ b. option_map (λ (e : Entry). e.holder) (cond b (Some (held_by (Port s r) x)) (line_of x.serial es))) (eq-eqb x.serial x.serial refl)))
nobodys n x Nobody es within free clear rest = rest free

none_left : (n i m : ℕ) (t : List Entry) → serials_of t ≡ range_with_len i m → AllWithin n t → ((a : ℕ) → a < n → held a t ≡ []) → ((k s r : ℕ) → holder_at k t ≡ Some (Port s r) → ⊥) → unspent t ≡ []
none_left n i m [] is within free clear = refl
none_left n i zero (e ∷ es) is within free clear = cc
none_left n i (suc m) (e ∷ es) is within free clear =
    let first : e.row.serial ≡ i = cc in
    let rest : serials_of es ≡ range_with_len (i + 1) m = cc in
    nobodys n e.row e.holder es within.0 free (clear e.row.serial)
    (λ others. none_left n (i + 1) m es rest within.1 others (λ k s r at. clear k s r (later k i m (Port s r) e es first rest at)))

pub none_counted : (n : ℕ) (l : Ledger) → LegalSoFar n l → owed l ≡ None → ((a : ℕ) → a < n → held a (table l) ≡ []) → ((s r : ℕ) → port_of l s r ≡ []) → (b : ℕ) → count l b ≡ 0
none_counted n l legal owes free empty b =
    ap (λ rs. count_of rs b) (none_left n 1 (serials l) (table l) (numbered n l legal) (within_all n l legal) free
    (λ k s r at. false≢true (sym (ap (is_among k) (empty s r)) ∙ among l k s r owes (mailed n l legal) at)))
