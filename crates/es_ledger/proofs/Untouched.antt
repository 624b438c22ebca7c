-- What one agent does changes no other agent's list of tickets.
use Rattle.std.proofs.Common.{◌≡◌, ℕ, List, [], ◌∷◌, ◌++◌, Option, Some, None, false, cond, refl, sym, ap, ◌∙◌, ne_eqb, append-nil}
use Rattle.std.specs.Option.{option_map, option_and_then}
use Rattle.es_event.specs.declared.ledger_event.Body.{Body}
use Rattle.es_event.specs.declared.ledger_event.Body.TheVariants.{Plain, Block}
use Rattle.es_event.specs.declared.ledger_event.LedgerEvent.{LedgerEvent}
use Rattle.es_event.specs.declared.ledger_event.LedgerEvent.TheVariants.{Opened, Posted, Taken, Spent}
use Rattle.es_event.specs.declared.row.Row.{Row}
use Rattle.es_event.specs.declared.row.Entry.{Entry}
use Rattle.es_event.specs.declared.row.Holder.{Holder}
use Rattle.es_event.specs.declared.row.Holder.TheVariants.{Agent, Port, Nobody}
use Rattle.es_event.specs.Rows.{held, held_by, is_agent, moved, line_of}
use Rattle.es_event.specs.Ledger.{Ledger, table, front, serial_in, posted_line, moved_if, by_agent}
use Rattle.es_event.specs.LegalLedger.{LegalSoFar}
use Rattle.es_ledger.specs.Laws.{owner}
use Rattle.es_ledger.proofs.Lines.{rows_append, rows_moved}
use Rattle.es_ledger.proofs.Numbered.{IsNumbered, numbered, only_by, none_only}
use Rattle.es_ledger.proofs.Lying.{Lying, lying_all, lies_in_front}

not_agent : (a b : ℕ) → (Some b ≡ Some a → ⊥) → is_agent a (Agent b) ≡ false
not_agent a b other = ne_eqb a b (λ same. other (ap Some (sym same)))

-- a line of another holder at the end
held_more : (a : ℕ) (t : List Entry) (e : Entry) → is_agent a e.holder ≡ false → held a (t ++ e ∷ []) ≡ held a t
held_more a t e other = rows_append (is_agent a) t (e ∷ []) ∙ ap (λ b. held a t ++ cond b (e.row ∷ []) []) other ∙ append-nil (held a t)

held_posted : (a : ℕ) (l : Ledger) (s r : ℕ) (m : Body) → held a (table l ++ posted_line l s r m) ≡ held a (table l)
held_posted a l s r (Plain v) = rows_append (is_agent a) (table l) [] ∙ append-nil (held a (table l))
held_posted a l s r (Block b k) = held_more a (table l) _ refl

held_taken : (a : ℕ) (l : Ledger) (s r : ℕ) (o : Option ℕ) → IsNumbered l → Lying l → (Some r ≡ Some a → ⊥) → option_and_then serial_in (front l s r) ≡ o
    → held a (moved_if o (Agent r) (table l)) ≡ held a (table l)
held_taken a l s r None is lying other e = refl
held_taken a l s r (Some k) is lying other e =
    rows_moved (is_agent a) k (Port s r) (Agent r) (table l) refl (not_agent a r other) (only_by l k (Port s r) is (lies_in_front l s r k lying e))

not_by : (a : ℕ) (r : Row) (h : Holder) → (option_map (λ p. p.0) (by_agent (held_by h r)) ≡ Some a → ⊥) → is_agent a h ≡ false
not_by a r (Agent b) other = not_agent a b other
not_by a r (Port s t) other = refl
not_by a r Nobody other = refl

held_spent : (a : ℕ) (l : Ledger) (k : ℕ) (o : Option Entry) → IsNumbered l → line_of k (table l) ≡ o → (option_map (λ p. p.0) (option_and_then by_agent o) ≡ Some a → ⊥)
    → held a (moved k Nobody (table l)) ≡ held a (table l)
held_spent a l k None is line other = rows_moved (is_agent a) k Nobody Nobody (table l) refl refl (none_only k Nobody (table l) line)
held_spent a l k (Some x) is line other =
    rows_moved (is_agent a) k x.holder Nobody (table l) (not_by a x.row x.holder other) refl (only_by l k x.holder is (ap (option_map (λ e. e.holder)) line))

pub untouched : (n : ℕ) (l : Ledger) (e : LedgerEvent) (a : ℕ) → LegalSoFar n (e ∷ l) → (owner l e ≡ Some a → ⊥) → held a (table (e ∷ l)) ≡ held a (table l)
untouched n l (Opened b w k c) a legal other = held_more a (table l) _ (not_agent a c other)
untouched n l (Posted s r m) a legal other = held_posted a l s r m
untouched n l (Taken s r) a legal other = held_taken a l s r (option_and_then serial_in (front l s r)) (numbered n l legal.1) (lying_all n l legal.1) other refl
untouched n l (Spent k) a legal other = held_spent a l k (line_of k (table l)) (numbered n l legal.1) refl other
untouched n l _ a legal other = refl
