-- What one agent does leaves what others hold, and whom they wait for.
use Rattle.std.proofs.Common.{◌≡◌, ℕ, ◌==◌, Bool, true, false, cond, sym, ◌∙◌, ap, refl, List, [], ◌∷◌, ◌++◌, Some, eqb-true}
use Rattle.std.specs.Option.{option_and_then, option_map, option_map_or}
use Rattle.es_event.specs.declared.ledger_event.LedgerEvent.{LedgerEvent}
use Rattle.es_event.specs.declared.ledger_event.LedgerEvent.TheVariants.{Spent, Drained}
use Rattle.es_event.specs.declared.row.Row.{Row}
use Rattle.es_event.specs.declared.row.Entry.{Entry}
use Rattle.es_event.specs.declared.row.Holder.{Holder}
use Rattle.es_event.specs.declared.row.Holder.TheVariants.{Agent, Port}
use Rattle.es_event.specs.Rows.{held_by, line_of, moved}
use Rattle.es_event.specs.Ledger.{Ledger, front, holder_of, serial_in, table}
use Rattle.es_event.specs.LegalLedger.{LegalSoFar}
use Rattle.es_event.specs.Totals.{is_drained}
use Rattle.es_ledger.proofs.Lines.{holder_at}
use Rattle.es_ledger.proofs.Lying.{Lying, lies_in_front}
use Rattle.es_match.specs.Deeds.{Deed, deed}
use Rattle.es_match.proofs.Bridge.{mapped}
use Rattle.es_theorems.proofs.Holding.{held_line, held_on}

pub drains_nothing : (l : Ledger) (e : LedgerEvent) (n : ℕ) (d : Deed) → deed l e ≡ Some (n, d) → is_drained e ≡ false
drains_nothing l (Drained s r) n d is = cc
drains_nothing l _ n d is = refl

-- Lines

pub moved_twice : (s q : ℕ) (h g : Holder) (t : List Entry) → (s ≡ q → ⊥) → moved s h (moved q g t) ≡ moved q g (moved s h t)
moved_twice s q h g [] other = refl
moved_twice s q h g (x ∷ t) other = ap (λ y. y ∷ moved s h (moved q g t)) (at (x.row.serial == q) (x.row.serial == s) refl refl) ∙ ap (λ us. cond ((cond (x.row.serial == s) (held_by h x.row) x).row.serial == q) (held_by g (cond (x.row.serial == s) (held_by h x.row) x).row) (cond (x.row.serial == s) (held_by h x.row) x) ∷ us) (moved_twice s q h g t other)
  where
    at : (b c : Bool) → (x.row.serial == q) ≡ b → (x.row.serial == s) ≡ c
        → cond ((cond b (held_by g x.row) x).row.serial == s) (held_by h (cond b (held_by g x.row) x).row) (cond b (held_by g x.row) x)
        ≡ cond ((cond c (held_by h x.row) x).row.serial == q) (held_by g (cond c (held_by h x.row) x).row) (cond c (held_by h x.row) x)
    at true true is it = absurd (other (sym (eqb-true x.row.serial s it) ∙ eqb-true x.row.serial q is))
    at true false is it = rw (is, it) refl
    at false true is it = rw (is, it) refl
    at false false is it = rw (is, it) refl

pub moved_append : (s : ℕ) (h : Holder) (t us : List Entry) → moved s h (t ++ us) ≡ moved s h t ++ moved s h us
moved_append s h [] us = refl
moved_append s h (x ∷ t) us = ap (λ r. cond (x.row.serial == s) (held_by h x.row) x ∷ r) (moved_append s h t us)

-- Holders

pub holder_agent : (l : Ledger) (s a : ℕ) (r : Row) → holder_of l s ≡ Some (a, r) → holder_at s (table l) ≡ Some (Agent a)
holder_agent l s a r is = ap (option_map (λ e. e.holder)) (held_line (line_of s (table l)) a r is)

-- the ticket in a message is no agent's
pub not_in_port : (l : Ledger) (t u s q a : ℕ) (r : Row) → Lying l → option_and_then serial_in (front l t u) ≡ Some q → holder_of l s ≡ Some (a, r) → s ≡ q → ⊥
not_in_port l t u s q a r lying front_is is same =
    let here = holder_agent l s a r is in
    let there = lies_in_front l t u q lying front_is in
    let clash : Some (Agent a) ≡ Some (Port t u) = sym here ∙ ap (λ s. holder_at s (table l)) same ∙ there in
    cc

pub spender : (l : Ledger) (q n : ℕ) (d e : Deed) → option_map {U = ℕ × Deed} (λ p. (p.0, e)) (holder_of l q) ≡ Some (n, d) → (r : Row) × (holder_of l q ≡ Some (n, r))
spender l q n d e is =
    let found = mapped (λ p. (p.0, e)) (holder_of l q) (n, d) is in
    let same : found.0.0 ≡ n = ap (λ p. p.0) found.2 in
    (found.0.1, found.1 ∙ ap (λ a. Some (a, found.0.1)) same)

-- what an agent holds it holds after another's deed
pub holder_other : (k : ℕ) (l : Ledger) (e : LedgerEvent) (n a : ℕ) (d : Deed) (s : ℕ) (r : Row) → LegalSoFar k l → deed l e ≡ Some (n, d) → (a ≡ n → ⊥) → holder_of l s ≡ Some (a, r) → holder_of (e ∷ l) s ≡ Some (a, r)
holder_other k l e n a d s r legal is other held = held_on k l e s a r legal not_spent held
  where
    not_spent : e ≡ Spent s → ⊥
    not_spent spends =
        let by = spender l s n d _ (ap (deed l) (sym spends) ∙ is) in
        let clash : Some (a, r) ≡ Some (n, by.0) = sym held ∙ by.1 in
        other (ap (λ o. option_map_or (λ p. p.0) o a) clash)
