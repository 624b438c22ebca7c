-- Internal: what is kept of a history's events, and that it says what the history says.
use Rattle.std.specs.Prelude.{ℕ, ◌≡◌, ◌≢◌, ◌+◌, ◌<◌, ◌≤◌, ◌^◌, ◌&&◌, ◌||◌, ◌==◌, max, not, nat_eq, nat_lt, Bool, true, List, [], ◌∷◌, length, Option, Some, None, is_some, slice_get, slice_index, if◌then◌else◌}
use Rattle.std.specs.List.{list_all, list_any, sum_by}
use Rattle.std.specs.Option.{option_map, option_map_or, option_or}
use Rattle.std.specs.HashMap.{get, HashMap}
use Rattle.std.specs.declared.alloc.Global.{Global}
use Rattle.std.specs.declared.collections.VecDeque.{VecDeque}
use Rattle.std.specs.declared.hash.FoldHasher.{FoldHasher}
use Rattle.std.specs.declared.hash.BuildHasherDefault.{BuildHasherDefault}
use Rattle.es_event.specs.declared.ledger_event.Body.{Body}
use Rattle.es_event.specs.declared.ledger_event.Body.TheVariants.{Plain, Block}
use Rattle.es_event.specs.declared.ledger_event.LedgerEvent.{LedgerEvent}
use Rattle.es_event.specs.declared.ledger_event.LedgerEvent.TheVariants.{Accessed}
use Rattle.es_event.specs.declared.row.Entry.{Entry}
use Rattle.es_event.specs.declared.row.Row.{Row}
use Rattle.es_event.specs.declared.access.Change.{Change}
use Rattle.es_event.specs.Access.{written}
use Rattle.es_event.specs.Rows.{line_of}
use Rattle.es_event.specs.Ledger.{Ledger, by_agent, holder_of, port_of, serial_in, table}
use Rattle.es_event.specs.LegalLedger.{LegalSoFar}
use Rattle.es_laws.specs.Memory.{WordAccess, accesses, is_of, is_write}
use Rattle.es_laws.specs.Races.{Mark as Marked, MarkedAccess, is_mark, known, marked, race}
use Rattle.es_races.specs.declared.clock.Clock.{Clock}
use Rattle.es_races.specs.declared.pass.Pass.{Pass}
use Rattle.es_races.specs.declared.ports.Message.{Message}
use Rattle.es_races.specs.declared.race.Mark.{Mark}
use Rattle.es_races.specs.declared.race.Race.{Race}
use Rattle.es_races.specs.declared.tickets.Ticket.{Ticket}
use Rattle.es_races.specs.declared.words.Word.{Word}
use Rattle.es_races.specs.Verdict.{race_at, said}

abbrev pub Map : Type 0 → Type 0 → Type 0
Map K V = HashMap K V (BuildHasherDefault FoldHasher)

abbrev pub pair_eq : ℕ × ℕ → ℕ × ℕ → Bool
pair_eq p q = nat_eq p.0 q.0 && nat_eq p.1 q.1

-- Clocks

-- how many of agent j's accesses a clock has
abbrev pub count_in : Clock → ℕ → ℕ
count_in c j = slice_index c.counts j

-- and that of agent a
abbrev pub known_in : List Clock → ℕ → ℕ → ℕ
known_in cs a j = option_map_or (λ c. count_in c j) (slice_get cs a) 0

-- a number that is raised to another one, if the test passes
abbrev pub raise_if : Bool → ℕ → ℕ → ℕ
raise_if test least n = if test then max n least else n

-- a clock has just as many of each agent's accesses as these are
abbrev pub Has : (ℕ → ℕ) → List Marked → Type 0
Has c ms = (j n : ℕ) → j < 8 → list_any (is_mark (j, n)) ms ≡ nat_lt n (c j)

-- Tickets

abbrev pub ticket_in : Map ℕ Ticket → ℕ → Option Ticket
ticket_in m s = get nat_eq m s

abbrev pub ticket_of : Entry → Ticket
ticket_of e = record { block = e.row.block; holder = option_map (λ p. p.0) (by_agent e) }

-- the ticket of serial q after one was added
abbrev pub add_ticket : ℕ → Ticket → ℕ → Option Ticket → Option Ticket
add_ticket k t q before = option_or before (if k == q then Some t else None)

abbrev pub handed_to : Option ℕ → Ticket → Ticket
handed_to who t = record { block = t.block; holder = who }

abbrev pub hand_ticket : ℕ → Option ℕ → ℕ → Option Ticket → Option Ticket
hand_ticket k who q before = if k == q then option_map (handed_to who) before else before

-- after a message was posted
abbrev pub add_posted : Body → ℕ → Option Ticket → Option Ticket
add_posted (Plain v) q before = before
add_posted (Block b s) q before = add_ticket s (record { block = b; holder = None }) q before

-- the ticket in a message, if there is one
abbrev pub hand_some : Option ℕ → Option ℕ → ℕ → Option Ticket → Option Ticket
hand_some None who q before = before
hand_some (Some k) who q before = hand_ticket k who q before

-- who holds a ticket, and its block
abbrev pub held_with : Ticket → Option (ℕ × ℕ)
held_with t = option_map {U = ℕ × ℕ} (λ a. (a, t.block)) t.holder

-- Ports

abbrev pub queue_in : Map (ℕ × ℕ) (VecDeque Message Global) → ℕ → ℕ → List Message
queue_in m s r = option_map_or (λ q. q.items) (get pair_eq m (s, r)) []

-- each message has what its sender knew, and the serial in it
pub data Carry : List Message → List (List Marked) → List Body → Type 0 where
  none : Carry [] [] []
  more : {m : Message} {k : List Marked} {b : Body} {ms : List Message} {ks : List (List Marked)} {bs : List Body} → Has (count_in m.clock) k → m.serial ≡ serial_in b → Carry ms ks bs → Carry (m ∷ ms) (k ∷ ks) (b ∷ bs)

-- Words

-- those of a word with which an access that writes conflicts, or one that does not
abbrev pub newest_in : Word → Bool → Clock
newest_in w writes = if writes then w.touched else w.wrote

abbrev pub newest_at : Map (ℕ × ℕ) Word → Bool → ℕ → ℕ → ℕ → ℕ
newest_at m writes b i j = option_map_or (λ w. count_in (newest_in w writes) j) (get pair_eq m (b, i)) 0

abbrev pub meets : Bool → ℕ → ℕ → WordAccess → Bool
meets writes b i x = (writes || is_write x) && is_of b i x

-- one more than the highest number of agent j's accesses that pass the test, 0 where there is none
abbrev pub highest : (WordAccess → Bool) → ℕ → List MarkedAccess → ℕ
highest p j [] = 0
highest p j (y ∷ ys) = raise_if (p y.access && (y.access.agent == j)) (y.mark.1 + 1) (highest p j ys)

-- the newest that is not known is one of another agent
pub record IsUnknown (newest known : Clock) (agent : ℕ) (m : Mark) : Type 0 where
  pub few : m.agent < 8
  pub other : agent ≢ m.agent
  pub newest_one : count_in newest m.agent ≡ m.number + 1
  pub unknown : count_in known m.agent ≤ m.number

-- The pass

-- how many accesses agent a made
abbrev pub made_by : ℕ → List WordAccess → ℕ
made_by a xs = sum_by (λ y. if y.agent == a then 1 else 0) xs

-- no two of them race
abbrev pub free : List MarkedAccess → Bool
free ys = list_all (λ x. list_all (λ y. not (race x y)) ys) ys

-- words and clocks say what accesses were made, with these marks, and what agents know of them; and none race
pub record Sound (knows : ℕ → List Marked) (made : List WordAccess) (marks : List MarkedAccess) (words : Map (ℕ × ℕ) Word) (clocks : List Clock) : Type 0 where
  pub newest : (writes : Bool) (b i j : ℕ) → j < 8 → newest_at words writes b i j ≡ highest (meets writes b i) j marks
  pub agents : (a : ℕ) → a < 8 → Has (known_in clocks a) (knows a)
  pub own : (a : ℕ) → a < 8 → known_in clocks a a ≡ made_by a made
  pub none : free marks ≡ true

-- what is kept says what the ledger's history says
pub record Says (l : Ledger) (p : Pass) : Type 0 where
  pub tickets : (s : ℕ) → ticket_in p.tickets s ≡ option_map ticket_of (line_of s (table l))
  pub ports : (s r : ℕ) → Carry (queue_in p.ports s r) ((known l).carried s r) (port_of l s r)
  pub sound : Sound (known l).knows (accesses l) (marked l) p.words p.known

-- and the event may come next, in a ledger of few agents
pub record Stands (e : LedgerEvent) (l : Ledger) (p : Pass) : Type 0 where
  pub agents : ℕ
  pub few : agents < 9
  pub legal : LegalSoFar agents (e ∷ l)
  pub short : length l < 2 ^ 63
  pub says : Says l p

-- after the event what is kept says what the history says then
abbrev pub Leaves : LedgerEvent → Pass → Pass → Type 0
Leaves e old new = (l : Ledger) → Stands e l old → Says (e ∷ l) new

-- or a race was found
abbrev pub Found : Ledger → Pass → Option Race → Type 0
Found l new None = Says l new
Found l new (Some r) = race_at l (said r.earlier) (said r.later) ≡ true

abbrev pub Finds : LedgerEvent → Pass → Pass → Option Race → Type 0
Finds e old new found = (l : Ledger) → Stands e l old → Found (e ∷ l) new found

-- after an access of an agent to a word of a block
abbrev pub Accesses : ℕ → ℕ → ℕ → Bool → Pass → Pass → Option Race → Type 0
Accesses agent block index writes old new found =
    (l : Ledger) (s w : ℕ) (m : Change) (r : Row) → Stands (Accessed s index m w) l old → holder_of l s ≡ Some (agent, r) → r.block ≡ block → writes ≡ is_some (written m w) → Found (Accessed s index m w ∷ l) new found
