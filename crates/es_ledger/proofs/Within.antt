-- In a legal history each ticket's holder is an agent, a port of two agents, or nobody.
use Rattle.std.proofs.Common.{◌≡◌, ℕ, ◌<◌, ◌==◌, List, [], ◌∷◌, ◌++◌, Option, Some, None, Bool, true, false, cond, refl, sym, ap, subst}
use Rattle.std.specs.Option.{option_map, option_map_or, option_and_then}
use Rattle.es_event.specs.declared.ledger_event.Body.{Body}
use Rattle.es_event.specs.declared.ledger_event.Body.TheVariants.{Plain, Block}
use Rattle.es_event.specs.declared.ledger_event.LedgerEvent.{LedgerEvent}
use Rattle.es_event.specs.declared.ledger_event.LedgerEvent.TheVariants.{Opened, Posted, Taken, Spent}
use Rattle.es_event.specs.declared.row.Entry.{Entry}
use Rattle.es_event.specs.declared.row.Holder.{Holder}
use Rattle.es_event.specs.declared.row.Holder.TheVariants.{Agent, Port, Nobody}
use Rattle.es_event.specs.Rows.{held_by, moved, line_of}
use Rattle.es_event.specs.declared.row.Row.{Row}
use Rattle.es_event.specs.Ledger.{Ledger, by_agent, holder_of, table, front, serial_in, posted_line, moved_if}
use Rattle.es_event.specs.LegalLedger.{ComesNext, LegalSoFar, owed}
use Rattle.es_ledger.proofs.Lines.{holder_at}
use Rattle.es_ledger.proofs.Lying.{Lying, lying_all, lies_in_front}

-- the holder is one of n agents, or a port of two of them
abbrev pub IsWithin : ℕ → Holder → Type 0
IsWithin n (Agent a) = a < n
IsWithin n (Port s r) = (s < n) × (r < n)
IsWithin n Nobody = Unit {0}

abbrev pub AllWithin : ℕ → List Entry → Type 0
AllWithin n [] = Unit {0}
AllWithin n (e ∷ es) = IsWithin n e.holder × AllWithin n es

within_more : (n : ℕ) (t us : List Entry) → AllWithin n t → AllWithin n us → AllWithin n (t ++ us)
within_more n [] us old new = new
within_more n (e ∷ es) us old new = (old.0, within_more n es us old.1 new)

within_moved : (n k : ℕ) (to : Holder) (t : List Entry) → IsWithin n to → AllWithin n t → AllWithin n (moved k to t)
within_moved n k to [] new old = tt
within_moved n k to (e ∷ es) new old = (step (e.row.serial == k), within_moved n k to es new old.1)
  where
    step : (b : Bool) → IsWithin n (cond b (held_by to e.row) e).holder
    step true = new
    step false = old.0

within_at : (n k : ℕ) (h : Holder) (t : List Entry) → holder_at k t ≡ Some h → AllWithin n t → IsWithin n h
within_at n k h [] at all = cc
within_at n k h (e ∷ es) at all = step (e.row.serial == k) at (λ e. within_at n k h es e all.1)
  where
    step : (b : Bool) → option_map (λ e. e.holder) (cond b (Some e) (line_of k es)) ≡ Some h → (holder_at k es ≡ Some h → IsWithin n h) → IsWithin n h
    step true at ih = let same : e.holder ≡ h = cc in subst (IsWithin n) same all.0
    step false at ih = ih at

within_taken : (n : ℕ) (l : Ledger) (s r : ℕ) (o : Option ℕ) → Lying l → option_and_then serial_in (front l s r) ≡ o → AllWithin n (table l) → AllWithin n (moved_if o (Agent r) (table l))
within_taken n l s r None lying e all = all
within_taken n l s r (Some k) lying e all =
    let port : IsWithin n (Port s r) = within_at n k (Port s r) (table l) (lies_in_front l s r k lying e) all in
    within_moved n k (Agent r) (table l) port.1 all

within_posted : (n : ℕ) (l : Ledger) (s r : ℕ) (m : Body) → s < n → r < n → AllWithin n (posted_line l s r m)
within_posted n l s r (Plain v) sender receiver = tt
within_posted n l s r (Block b k) sender receiver = ((sender, receiver), tt)

within_next : (n : ℕ) (l : Ledger) (e : LedgerEvent) (o : Option ℕ) → ComesNext n l e o → Lying l → AllWithin n (table l) → AllWithin n (table (e ∷ l))
within_next n l e (Some k) c lying all = subst (λ e. AllWithin n (table (e ∷ l))) (sym c) (within_moved n k Nobody (table l) tt all)
within_next n l (Opened b w k a) None c lying all = within_more n (table l) _ all (c.2, tt)
within_next n l (Posted a r m) None c lying all = within_more n (table l) _ all (within_posted n l a r m c.0 c.1)
within_next n l (Taken s r) None c lying all = within_taken n l s r (option_and_then serial_in (front l s r)) lying refl all
within_next n l (Spent k) None c lying all = within_moved n k Nobody (table l) tt all
within_next n l _ None c lying all = all

pub within_all : (n : ℕ) (l : Ledger) → LegalSoFar n l → AllWithin n (table l)
within_all n [] legal = tt
within_all n (e ∷ l) legal = within_next n l e (owed l) legal.0 (lying_all n l legal.1) (within_all n l legal.1)

-- so who holds a ticket is one of the agents

by_this_agent : (n : ℕ) (r q : Row) (h : Holder) (a : ℕ) → by_agent (held_by h r) ≡ Some (a, q) → IsWithin n h → a < n
by_this_agent n r q (Agent b) a is within = subst (λ a. a < n) (ap (λ o. option_map_or (λ p. p.0) o 0) is) within
by_this_agent n r q (Port s u) a is within = cc
by_this_agent n r q Nobody a is within = cc

pub holder_within : (n : ℕ) (l : Ledger) (s a : ℕ) (r : Row) → LegalSoFar n l → holder_of l s ≡ Some (a, r) → a < n
holder_within n l s a r legal is = by (line_of s (table l)) refl is
  where
    by : (o : Option Entry) → line_of s (table l) ≡ o → option_and_then by_agent o ≡ Some (a, r) → a < n
    by None at is = cc
    by (Some x) at is = by_this_agent n x.row r x.holder a is (within_at n s x.holder (table l) (ap (option_map (λ e. e.holder)) at) (within_all n l legal))
