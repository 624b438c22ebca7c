-- Who sleeps keeps the ticket through which it began to, so the block is not released.
use Rattle.std.proofs.Common.{◌≡◌, ℕ, ◌+◌, ◌==◌, ◌&&◌, Bool, true, false, cond, sym, ◌∙◌, ap, refl, subst, subst₂, arith, List, [], ◌∷◌, Option, Some, None}
use Rattle.std.specs.Prelude.{is_some}
use Rattle.std.specs.Option.{option_and_then, option_map, option_map_or}
use Rattle.std.proofs.lemmas.List.Sums.{sum_by-cons}
use Rattle.std.proofs.lemmas.Bool.{and_parts, eq-eqb, eqb-true, false≢true, ne_eqb}
use Rattle.es_event.specs.declared.ledger_event.Act.TheVariants.{Ended, Slept, Woke, TimedOut}
use Rattle.es_event.specs.declared.ledger_event.LedgerEvent.{LedgerEvent}
use Rattle.es_event.specs.declared.ledger_event.LedgerEvent.TheVariants.{Opened, Posted, Taken, Spent, Drained, Acted}
use Rattle.es_event.specs.declared.row.Entry.{Entry}
use Rattle.es_event.specs.declared.row.Holder.{Holder}
use Rattle.es_event.specs.declared.row.Holder.TheVariants.{Agent, Port, Nobody}
use Rattle.es_event.specs.declared.row.Row.{Row}
use Rattle.es_event.specs.Ledger.{Ledger, by_agent, count, holder_of, is_opened, is_released, table, waits}
use Rattle.es_event.specs.Rows.{count_of, held_by, is_somebody, line_of, unspent}
use Rattle.es_event.specs.LegalLedger.{ComesNext, LegalSoFar, owed}
use Rattle.es_event.specs.Waiters.{asleep, block_by}
use Rattle.es_ledger.proofs.Taken.{held_as}
use Rattle.es_match.specs.declared.deed.Sleep.{Sleep}
use Rattle.es_match.specs.Deeds.{Spends, by_holder, deed, sleep_of}
use Rattle.es_match.specs.Patience.{is_patient, may_do, may_stir, patient}
use Rattle.es_match.proofs.Sleeping.{has_a_sleep}
use Rattle.es_theorems.proofs.Holding.{held_on}

-- agent a holds the ticket of this serial
abbrev Holds : Ledger → ℕ → ℕ → Type 0
Holds l a s = (r : Row) × (holder_of l s ≡ Some (a, r))

holds_on : (n : ℕ) (l : Ledger) (e : LedgerEvent) (a s : ℕ) → LegalSoFar n l → (e ≡ Spent s → ⊥) → Holds l a s → Holds (e ∷ l) a s
holds_on n l e a s legal kept held = (held.0, held_on n l e s a held.0 legal kept held.1)

-- it gives up no ticket
gives_none : (l : Ledger) (a k : ℕ) → asleep l a ≡ true → Holds l a k → is_patient l (by_holder l k (Spends k)) ≡ true → ⊥
gives_none l a k sleeps held is =
    let its : is_patient l (Some (a, Spends k)) ≡ true = sym (ap (λ o. is_patient l (option_map (λ p. (p.0, Spends k)) o)) held.1) ∙ is in
    let stirs = (and_parts (may_do (waits l a) (Spends k)) (may_stir (asleep l a) (Spends k)) its).1 in
    false≢true (sym (ap (λ t. may_stir t (Spends k)) sleeps) ∙ stirs)

not_given : (l : Ledger) (a : ℕ) (s : Sleep) (k : ℕ) → sleep_of l a ≡ Some s → Holds l a s.serial → is_patient l (by_holder l k (Spends k)) ≡ true → Spent k ≡ Spent s.serial → ⊥
not_given l a s k is held patient same = let one : k ≡ s.serial = cc in gives_none l a k (sym (has_a_sleep l a) ∙ ap is_some is) (subst (Holds l a) (sym one) held) patient

-- the ticket through which it begins to sleep is its own
begins_by : (n : ℕ) (l : Ledger) (c s i w : ℕ) (o : Option ℕ) → ComesNext n l (Acted c (Slept s i w)) o → Holds l c s
begins_by n l c s i w None may = held_as (holder_of l s) c i _ may.0
begins_by n l c s i w (Some k) may = cc

sleeps_still : (t : Bool) (o : Option Sleep) (s : Sleep) → cond t None o ≡ Some s → o ≡ Some s
sleeps_still true o s is = cc
sleeps_still false o s is = is

patient_before : (l : Ledger) (e : LedgerEvent) → patient (e ∷ l) ≡ true → patient l ≡ true
patient_before l e waits = (and_parts (is_patient l (deed l e)) (patient l) waits).1

pub sleeper_holds : (n : ℕ) (l : Ledger) (a : ℕ) (s : Sleep) → LegalSoFar n l → patient l ≡ true → sleep_of l a ≡ Some s → Holds l a s.serial
sleeper_holds n [] a s legal waits is = cc
sleeper_holds n (Acted c (Slept k i w) ∷ l) a s legal waits is = by (c == a) refl is (sleeper_holds n l a s legal.1 (patient_before l (Acted c (Slept k i w)) waits))
  where
    by : (t : Bool) → (c == a) ≡ t → cond t (Some (record { serial = k; index = i; word = w })) (sleep_of l a) ≡ Some s → (sleep_of l a ≡ Some s → Holds l a s.serial) → Holds (Acted c (Slept k i w) ∷ l) a s.serial
    by true e is rest =
        let same : k ≡ s.serial = ap (λ o. option_map_or (λ (s : Sleep). s.serial) o 0) is in
        subst₂ (λ a k. Holds l a k) (eqb-true c a e) same (begins_by n l c k i w (owed l) legal.0)
    by false e is rest = rest is
sleeper_holds n (Acted c Ended ∷ l) a s legal waits is = sleeper_holds n l a s legal.1 (patient_before l (Acted c Ended) waits) (sleeps_still (c == a) (sleep_of l a) s is)
sleeper_holds n (Acted c Woke ∷ l) a s legal waits is = sleeper_holds n l a s legal.1 (patient_before l (Acted c Woke) waits) (sleeps_still (c == a) (sleep_of l a) s is)
sleeper_holds n (Acted c TimedOut ∷ l) a s legal waits is = sleeper_holds n l a s legal.1 (patient_before l (Acted c TimedOut) waits) (sleeps_still (c == a) (sleep_of l a) s is)
sleeper_holds n (Spent k ∷ l) a s legal waits is =
    let parts = and_parts (is_patient l (by_holder l k (Spends k))) (patient l) waits in
    let held = sleeper_holds n l a s legal.1 parts.1 is in
    holds_on n l (Spent k) a s.serial legal.1 (not_given l a s k is held parts.0) held
sleeper_holds n (Opened b w k c ∷ l) a s legal waits is = holds_on n l (Opened b w k c) a s.serial legal.1 (λ e. cc) (sleeper_holds n l a s legal.1 (patient_before l (Opened b w k c) waits) is)
sleeper_holds n (Posted c r m ∷ l) a s legal waits is = holds_on n l (Posted c r m) a s.serial legal.1 (λ e. cc) (sleeper_holds n l a s legal.1 (patient_before l (Posted c r m) waits) is)
sleeper_holds n (Taken t r ∷ l) a s legal waits is = holds_on n l (Taken t r) a s.serial legal.1 (λ e. cc) (sleeper_holds n l a s legal.1 (patient_before l (Taken t r) waits) is)
sleeper_holds n (Drained t r ∷ l) a s legal waits is = holds_on n l (Drained t r) a s.serial legal.1 (λ e. cc) (sleeper_holds n l a s legal.1 (patient_before l (Drained t r) waits) is)
sleeper_holds n (e ∷ l) a s legal waits is = sleeper_holds n l a s legal.1 (patient_before l e waits) is

-- a ticket that an agent holds is counted

count_cons : (r : Row) (rs : List Row) (b : ℕ) → count_of (r ∷ rs) b ≡ cond (r.block == b) 1 0 + count_of rs b
count_cons r rs b = sum_by-cons (λ r. cond {A = ℕ} (r.block == b) 1 0) r rs

IsCounted : List Row → ℕ → Type 0
IsCounted rs b = (k : ℕ) × (count_of rs b ≡ 1 + k)

counted_more : (x : Row) (t : Bool) (rs : List Row) (b : ℕ) → IsCounted rs b → IsCounted (cond t (x ∷ rs) rs) b
unfolding IsCounted
counted_more x false rs b is = is
counted_more x true rs b is = (cond (x.block == b) 1 0 + is.0, (let all = count_cons x rs b in let rest = is.1 in omega (arith, all, rest)))

counted_here : (x r : Row) (rs : List Row) (h : Holder) (a : ℕ) → by_agent (held_by h x) ≡ Some (a, r) → IsCounted (cond (is_somebody h) (x ∷ rs) rs) r.block
unfolding IsCounted
counted_here x r rs (Agent c) a is =
    let same : x.block ≡ r.block = ap (λ o. option_map_or (λ (p : ℕ × Row). p.1.block) o 0) is in
    (count_of rs r.block, count_cons x rs r.block ∙ ap (λ t. cond t 1 0 + count_of rs r.block) (eq-eqb x.block r.block same))
counted_here x r rs (Port s u) a is = cc
counted_here x r rs Nobody a is = cc

counted : (s : ℕ) (t : List Entry) (a : ℕ) (r : Row) → option_and_then by_agent (line_of s t) ≡ Some (a, r) → IsCounted (unspent t) r.block
counted s [] a r is = cc
counted s (x ∷ t) a r is = by (x.row.serial == s) is (counted s t a r)
  where
    by : (here : Bool) → option_and_then by_agent (cond here (Some x) (line_of s t)) ≡ Some (a, r) → (option_and_then by_agent (line_of s t) ≡ Some (a, r) → IsCounted (unspent t) r.block) → IsCounted (unspent (x ∷ t)) r.block
    by true is rest = counted_here x.row r (unspent t) x.holder a is
    by false is rest = counted_more x.row (is_somebody x.holder) (unspent t) r.block (rest is)

some_left : (opened : Bool) (k m : ℕ) → k ≡ 1 + m → (opened && (k == 0)) ≡ false
some_left true k m is = ne_eqb k 0 (λ none. omega (arith, none, is))
some_left false k m is = refl

pub stays_held : (n : ℕ) (l : Ledger) (a : ℕ) (s : Sleep) → LegalSoFar n l → patient l ≡ true → sleep_of l a ≡ Some s → is_released l (block_by l s.serial) ≡ false
unfolding IsCounted
stays_held n l a s legal waits is =
    let held = sleeper_holds n l a s legal waits is in
    let its : block_by l s.serial ≡ held.0.block = ap (λ o. option_map_or (λ (p : ℕ × Row). p.1.block) o 0) held.1 in
    let there = counted s.serial (table l) a held.0 held.1 in
    ap (is_released l) its ∙ some_left (is_opened l held.0.block) (count l held.0.block) there.0 there.1
