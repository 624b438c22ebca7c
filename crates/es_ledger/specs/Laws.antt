-- To believe: what is proved of every history of the ledger, a sentence each.
use Rattle.std.specs.Prelude.{ℕ, zero, suc, ◌≡◌, ◌+◌, ◌↔◌, true, map, List, [], ◌∷◌, ◌++◌, Option, Some, None, if◌then◌else◌, option_to_list}
use Rattle.std.specs.List.{range_with_len}
use Rattle.std.specs.Option.{option_map}
use Rattle.es_event.specs.declared.ledger_event.Body.{Body}
use Rattle.es_event.specs.declared.ledger_event.LedgerEvent.{LedgerEvent}
use Rattle.es_event.specs.declared.ledger_event.LedgerEvent.TheVariants.{Opened, Posted, Taken, Spent, Accessed, Drained, Acted}
use Rattle.es_event.specs.Rows.{held, in_port, count_of}
use Rattle.es_event.specs.Ledger.{Ledger, serials, table, count, is_opened, is_released, holder_of, port_of, is_at, front}
use Rattle.es_event.specs.LegalLedger.{LegalSoFar}

-- The table has one line for each ticket that was made, by rising serial, from 1.
abbrev pub TicketsAreNumbered : Type 0
TicketsAreNumbered = (n : ℕ) (l : Ledger) → LegalSoFar n l → map (λ e. e.row.serial) (table l) ≡ range_with_len 1 (serials l)

-- the sum of f over the numbers below n
abbrev pub sum_below : ℕ → (ℕ → ℕ) → ℕ
sum_below zero f = 0
sum_below (suc n) f = f n + sum_below n f

-- How many tickets of a block there are is the sum over the agents and the ports.
abbrev pub CountsAreSums : Type 0
CountsAreSums =
    (n : ℕ) (l : Ledger) (b : ℕ) → LegalSoFar n l
    → count l b ≡ sum_below n (λ a. count_of (held a (table l)) b) + sum_below n (λ s. sum_below n (λ r. count_of (in_port s r (table l)) b))

-- A block that was made is released exactly where no agent and no port holds a ticket of it.
abbrev pub ReleasedWhereNobodyHolds : Type 0
ReleasedWhereNobodyHolds =
    (l : Ledger) (b : ℕ) → is_opened l b ≡ true
    → (is_released l b ≡ true) ↔ (((a : ℕ) → count_of (held a (table l)) b ≡ 0) × ((s r : ℕ) → count_of (in_port s r (table l)) b ≡ 0))

-- the agent whose list of tickets the event may change
abbrev pub owner : Ledger → LedgerEvent → Option ℕ
owner l (Opened b w s a) = Some a
owner l (Posted a r m) = None
owner l (Taken s r) = Some r
owner l (Spent s) = option_map (λ p. p.0) (holder_of l s)
owner l (Accessed s i m old) = None
owner l (Acted a d) = None
owner l (Drained s r) = None

-- What one agent does changes no other agent's list of tickets.
abbrev pub WhatOneAgentDoesChangesNoOther : Type 0
WhatOneAgentDoesChangesNoOther =
    (n : ℕ) (l : Ledger) (e : LedgerEvent) (a : ℕ) → LegalSoFar n (e ∷ l) → (owner l e ≡ Some a → ⊥) → held a (table (e ∷ l)) ≡ held a (table l)

-- Ports

abbrev pub posts : LedgerEvent → ℕ → ℕ → List Body
posts (Opened b w k a) s r = []
posts (Posted t u m) s r = if is_at s r t u then m ∷ [] else []
posts (Taken t u) s r = []
posts (Spent k) s r = []
posts (Accessed k i m old) s r = []
posts (Acted a d) s r = []
posts (Drained t u) s r = []

-- all that s posted to r, the oldest first
abbrev pub posted : Ledger → ℕ → ℕ → List Body
posted [] s r = []
posted (e ∷ earlier) s r = posted earlier s r ++ posts e s r

-- what the event takes from the port of s and r
abbrev pub gives : Ledger → LedgerEvent → ℕ → ℕ → List Body
gives l (Opened b w k a) s r = []
gives l (Posted t u m) s r = []
gives l (Taken t u) s r = if is_at s r t u then option_to_list (front l s r) else []
gives l (Spent k) s r = []
gives l (Accessed k i m old) s r = []
gives l (Acted a d) s r = []
gives l (Drained t u) s r = if is_at s r t u then option_to_list (front l s r) else []

-- all that the port of s and r gave, the oldest first
abbrev pub given : Ledger → ℕ → ℕ → List Body
given [] s r = []
given (e ∷ earlier) s r = given earlier s r ++ gives earlier e s r

-- What a port gave, followed by what it still has, is what was posted there, in order: nothing is lost, doubled or out of turn.
abbrev pub PortsAreFirstInFirstOut : Type 0
PortsAreFirstInFirstOut = (l : Ledger) (s r : ℕ) → posted l s r ≡ given l s r ++ port_of l s r
