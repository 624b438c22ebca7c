-- In a legal history each ticket is of a block that was made, and its row has the words of that block.
use Rattle.std.proofs.Common.{◌≡◌, ℕ, ◌+◌, ◌<◌, ◌≤◌, ◌==◌, List, [], ◌∷◌, ◌++◌, Option, Some, None, Bool, true, false, cond, refl, sym, ap, ◌∙◌, subst, arith, eq-eqb, ne_eqb}
use Rattle.std.specs.List.{Contains}
use Rattle.std.specs.Option.{option_and_then, option_map_or}
use Rattle.std.proofs.lemmas.Bool.{eqb-true, ltb-true}
use Rattle.es_event.specs.declared.ledger_event.Body.{Body}
use Rattle.es_event.specs.declared.ledger_event.Body.TheVariants.{Plain, Block}
use Rattle.es_event.specs.declared.ledger_event.LedgerEvent.{LedgerEvent}
use Rattle.es_event.specs.declared.ledger_event.LedgerEvent.TheVariants.{Opened, Posted, Taken, Spent}
use Rattle.es_event.specs.declared.row.Row.{Row}
use Rattle.es_event.specs.declared.row.Entry.{Entry}
use Rattle.es_event.specs.declared.row.Holder.{Holder}
use Rattle.es_event.specs.declared.row.Holder.TheVariants.{Agent, Port, Nobody}
use Rattle.es_event.specs.Rows.{held_by, held, is_agent, is_somebody, moved, line_of}
use Rattle.es_event.specs.Ledger.{Ledger, opened, size, table, count, posted_line, moved_if, front, serial_in, by_agent}
use Rattle.es_event.specs.LegalLedger.{ComesNext, LegalSoFar, IsPostable, owed}
use Rattle.es_ledger.proofs.Tallies.{tally, weight, if_passed, tally_more}
use Rattle.es_ledger.proofs.After.{agent_of, holder_here, spent_count}

-- each line's row is such
abbrev pub Each : (Row → Type 0) → List Entry → Type 0
Each P [] = Unit {0}
Each P (e ∷ es) = P e.row × Each P es

pub each_weaker : (P Q : Row → Type 0) (t : List Entry) → ((r : Row) → P r → Q r) → Each P t → Each Q t
each_weaker P Q [] weaker each = tt
each_weaker P Q (e ∷ es) weaker each = (weaker e.row each.0, each_weaker P Q es weaker each.1)

each_more : (P : Row → Type 0) (t us : List Entry) → Each P t → Each P us → Each P (t ++ us)
each_more P [] us old new = new
each_more P (e ∷ es) us old new = (old.0, each_more P es us old.1 new)

each_moved : (P : Row → Type 0) (k : ℕ) (to : Holder) (t : List Entry) → Each P t → Each P (moved k to t)
each_moved P k to [] each = tt
each_moved P k to (e ∷ es) each = (step (e.row.serial == k), each_moved P k to es each.1)
  where
    step : (b : Bool) → P (cond b (held_by to e.row) e).row
    step true = each.0
    step false = each.0

each_moved_if : (P : Row → Type 0) (k : Option ℕ) (to : Holder) (t : List Entry) → Each P t → Each P (moved_if k to t)
each_moved_if P None to t each = each
each_moved_if P (Some k) to t each = each_moved P k to t each

-- where there are tickets of a block, one of them is such
of_counted : (P : Row → Type 0) (test : Holder → Bool) (b : ℕ) (t : List Entry) → Each P t → 0 < tally test b t → (r : Row) × (r.block ≡ b) × P r
of_counted P test b [] each some = absurd (omega arith)
of_counted P test b (e ∷ es) each some = step (e.row.block == b) refl (of_counted P test b es each.1)
  where
    none : (p : Bool) → if_passed p 0 ≡ 0
    none true = refl
    none false = refl

    step : (p : Bool) → (e.row.block == b) ≡ p → (0 < tally test b es → (r : Row) × (r.block ≡ b) × P r) → (r : Row) × (r.block ≡ b) × P r
    step true same ih = (e.row, eqb-true e.row.block b same, each.0)
    step false other ih =
        let light : weight b e ≡ 0 = ap (λ p. cond {A = ℕ} p 1 0) other in
        ih (omega (arith, tally_more test b e es, ap (if_passed (test e.holder)) light, none (test e.holder)))

-- the row that an agent holds is such
of_held : (P : Row → Type 0) (a s : ℕ) (r : Row) (t : List Entry) → Each P t → agent_of s t ≡ Some (a, r) → P r
of_held P a s r [] each by = cc
of_held P a s r (e ∷ es) each by = step (e.row.serial == s) by (of_held P a s r es each.1)
  where
    here : (h : Holder) → by_agent (held_by h e.row) ≡ Some (a, r) → P r
    here (Agent b) by = subst P (ap (λ o. option_map_or (λ (p : ℕ × Row). p.1) o e.row) by) each.0
    here (Port j k) by = cc
    here Nobody by = cc

    step : (b : Bool) → option_and_then by_agent (cond b (Some e) (line_of s es)) ≡ Some (a, r) → (agent_of s es ≡ Some (a, r) → P r) → P r
    step true by ih = here e.holder by
    step false by ih = ih by

-- the row's block was made, with the row's words
abbrev pub IsMade : Ledger → Row → Type 0
IsMade l r = (0 < r.block) × (r.block ≤ opened l) × (r.words ≡ size l r.block)

-- an older block keeps its words when the next is made
still_made : (l : Ledger) (b w s a : ℕ) → b ≡ opened l + 1 → (r : Row) → IsMade l r → IsMade (Opened b w s a ∷ l) r
still_made l b w s a next r made =
    let other : (b == r.block) ≡ false = ne_eqb b r.block (λ same. omega (arith, made.1)) in
    (made.0, omega (arith, made.1), made.2 ∙ sym (ap (λ p. cond p w (size l r.block)) other))

-- an event that makes none changes none
each_same : (l : Ledger) (t : List Entry) → Each (IsMade l) t → Each (λ r. (0 < r.block) × (r.block ≤ 0 + opened l) × (r.words ≡ size l r.block)) t
each_same l t each = each_weaker (IsMade l) _ t (λ r made. (made.0, omega (arith, made.1), made.2)) each

made_posted : (l : Ledger) (a r : ℕ) (m : Body) → IsPostable l a m → Each (IsMade l) (table l) → Each (IsMade l) (posted_line l a r m)
made_posted l a r (Plain v) may each = tt
made_posted l a r (Block b k) may each =
    let found = of_counted (IsMade l) (is_agent a) b (table l) each (ltb-true 0 (tally (is_agent a) b (table l)) may.1) in
    let made = found.2 in
    ((omega (arith, found.1, made.0), omega (arith, found.1, made.1), refl), tt)

made_next : (n : ℕ) (l : Ledger) (e : LedgerEvent) (o : Option ℕ) → ComesNext n l e o → Each (IsMade l) (table l) → Each (IsMade (e ∷ l)) (table (e ∷ l))
made_next n l e (Some k) c each = subst (λ e. Each (IsMade (e ∷ l)) (table (e ∷ l))) (sym c) (each_same l _ (each_moved (IsMade l) k Nobody (table l) each))
made_next n l (Opened b w k a) None c each =
    let new : w ≡ cond (b == b) w (size l b) = sym (ap (λ p. cond p w (size l b)) (eq-eqb b b refl)) in
    each_more (IsMade (Opened b w k a ∷ l)) (table l) _ (each_weaker (IsMade l) _ (table l) (still_made l b w k a c.0) each) ((omega (arith, c.0), omega (arith, c.0), new), tt)
made_next n l (Posted a r m) None c each = each_same l _ (each_more (IsMade l) (table l) _ each (made_posted l a r m c.3 each))
made_next n l (Taken s r) None c each = each_same l _ (each_moved_if (IsMade l) (option_and_then serial_in (front l s r)) (Agent r) (table l) each)
made_next n l (Spent k) None c each = each_same l _ (each_moved (IsMade l) k Nobody (table l) each)
made_next n l _ None c each = each_same l _ each

pub all_made : (n : ℕ) (l : Ledger) → LegalSoFar n l → Each (IsMade l) (table l)
all_made n [] legal = tt
all_made n (e ∷ l) legal = made_next n l e (owed l) legal.0 (all_made n l legal.1)

pub block_made : (n : ℕ) (l : Ledger) (b : ℕ) → LegalSoFar n l → 0 < count l b → (0 < b) × (b ≤ opened l)
block_made n l b legal some =
    let found = of_counted (IsMade l) is_somebody b (table l) (all_made n l legal) some in
    let made = found.2 in
    (omega (arith, found.1, made.0), omega (arith, found.1, made.1))

pub block_there : (n : ℕ) (l : Ledger) (a : ℕ) (r : Row) → LegalSoFar n l → Contains (held a (table l)) r → (0 < count l r.block) × (r.words ≡ size l r.block)
block_there n l a r legal in_list =
    let here = holder_here n l a r legal in_list in
    let one : cond {A = ℕ} (r.block == r.block) 1 0 ≡ 1 = ap (λ p. cond {A = ℕ} p 1 0) (eq-eqb r.block r.block refl) in
    let made = of_held (IsMade l) a r.serial r (table l) (all_made n l legal) here in
    (omega (arith, one, spent_count n l r.serial a r legal here r.block), made.2)
