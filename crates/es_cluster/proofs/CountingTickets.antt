-- Tickets and rows, counted.
use Rattle.std.proofs.Common.{◌≡◌, ◌≤◌, ◌+◌, ◌∷◌, ◌++◌, [], List, map, ℕ, Bool, true, false, cond, refl, ap, subst, ◌∙◌, arith, append_assoc, ◌==◌, Some}
use Rattle.std.specs.List.{count_by, Contains}
use Rattle.std.proofs.lemmas.List.{map-append}
use Rattle.std.proofs.lemmas.List.Sums.{sum_by-cons}
use Rattle.es_event.specs.declared.row.Row.{Row}
use Rattle.es_event.specs.Ledger.{Ledger, ended}
use Rattle.es_event.specs.declared.ledger_event.LedgerEvent.TheVariants.{Spent}
use Rattle.es_event.specs.Order.{phase}
use Rattle.es_ticket.proofs.Counted.{counted_last, owned_last}
use Rattle.es_ticket.specs.Stakes.{StakeView, at}
use Rattle.es_record.specs.AgentView.{AgentView}
use Rattle.es_agent.specs.Tickets.{is_ended, tickets}
use Rattle.es_cluster.specs.Members.{rows_of, SameRows, Holds, HoldsBeside}
use Rattle.es_cluster.specs.Turned.{spent}

pub counted_rows : (p : Row → Bool) (ts : List (ℕ × Row)) → count_by p (map (λ t. t.1) ts) ≡ count_by (λ t. p t.1) ts
counted_rows p [] = refl
counted_rows p (t ∷ ts) =
    let a = sum_by-cons (λ r. cond {A = ℕ} (p r) 1 0) t.1 (map (λ t. t.1) ts) in
    let b = sum_by-cons {X = ℕ × Row} (λ t. cond {A = ℕ} (p t.1) 1 0) t ts in
    let ih = counted_rows p ts in omega (arith, a, b, ih)

-- the last ticket was spent
pub spent_last : (ts : List (ℕ × Row)) (i : ℕ) (r : Row) (l : Ledger) → spent (ts ++ (i, r) ∷ []) l ≡ spent ts (Spent r.serial ∷ l)
spent_last ts i r l = ap (λ es. es ++ l) (map-append (λ t. Spent t.1.serial) ts ((i, r) ∷ [])) ∙ append_assoc (map (λ t. Spent t.1.serial) ts) (Spent r.serial ∷ []) l

-- nobody ends by it
pub spent_over : (ts : List (ℕ × Row)) (l : Ledger) (a : ℕ) → ended (spent ts l) a ≡ ended l a
spent_over [] l a = refl
spent_over (t ∷ ts) l a = spent_over ts l a

-- A ticket that is counted is there

at_counted : (p : Row → Bool) (o : ℕ) (r : Row) (ts : List (ℕ × Row)) → Some r ≡ at o ts → cond {A = ℕ} (p r) 1 0 ≤ count_by (λ t. p t.1) ts
at_counted p o r [] e = cc
at_counted p o r (t ∷ ts) e = one (t.0 == o) e (at_counted p o r ts)
  where
    first : count_by (λ t. p t.1) (t ∷ ts) ≡ cond {A = ℕ} (p t.1) 1 0 + count_by (λ t. p t.1) ts
    first = sum_by-cons {X = ℕ × Row} (λ t. cond {A = ℕ} (p t.1) 1 0) t ts

    one : (b : Bool) → Some r ≡ cond b (Some t.1) (at o ts) → (Some r ≡ at o ts → cond {A = ℕ} (p r) 1 0 ≤ count_by (λ t. p t.1) ts) → cond {A = ℕ} (p r) 1 0 ≤ count_by (λ t. p t.1) (t ∷ ts)
    one true e ih = let same : r ≡ t.1 = cc in let a = ap (λ r. cond {A = ℕ} (p r) 1 0) same in let b = first in omega (arith, a, b)
    one false e ih = let a = ih e in let b = first in omega (arith, a, b)

pub counted_there : (rows : List Row) (r : Row) → ((p : Row → Bool) → cond {A = ℕ} (p r) 1 0 ≤ count_by p rows) → Contains rows r
counted_there rows r h = owned_last rows 0 r [] (λ p. let a = h p in let b = counted_last p 0 r [] in omega (arith, a, b))

-- the ticket of a buffer object is among the stake's rows
pub ticket_held : (b : AgentView) (s : StakeView) (o : ℕ) (r : Row) → Holds b s → Some r ≡ at o (tickets b) → Contains s.rows r
ticket_held b s o r holds e = counted_there s.rows r (λ p. let a = at_counted p o r (tickets b) e in let c = holds.1 p in let d = counted_rows p (tickets b) in omega (arith, a, c, d))

-- and so is one that the stake has beside the agent's
pub beside_held : (b : AgentView) (s : StakeView) (r : Row) → HoldsBeside r b s → Contains s.rows r
beside_held b s r holds = counted_there s.rows r (λ p. let a = holds.1 p in omega (arith, a))

-- rows that are those of no ticket are none
none_left : (rows : List Row) → SameRows [] rows → rows ≡ []
none_left [] same = refl
none_left (r ∷ rows) same =
    let one = sum_by-cons (λ r. cond {A = ℕ} true 1 0) r rows in
    let none = same (λ r. true) in
    absurd (omega (arith, one, none))

-- an agent that has ended has none
pub none_over : (b : AgentView) (rows : List Row) → is_ended (phase b.history) ≡ true → SameRows (rows_of b) rows → rows ≡ []
none_over b rows over same = none_left rows (subst (λ rs. SameRows rs rows) empty same)
  where
    empty : rows_of b ≡ []
    empty = rw over refl
