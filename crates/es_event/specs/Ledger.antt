-- To believe: what the ledger's history says of blocks, tickets, ports and waiting agents.
use Rattle.std.specs.Prelude.{ℕ, ◌+◌, ◌==◌, ◌&&◌, ◌||◌, Bool, false, List, [], ◌∷◌, ◌++◌, drop, Option, Some, None, slice_get, nat_lt, nat_le, if◌then◌else◌}
use Rattle.std.specs.Option.{option_and_then, option_map, option_map_or}
use Rattle.es_event.specs.declared.ledger_event.Body.{Body}
use Rattle.es_event.specs.declared.ledger_event.Body.TheVariants.{Plain, Block}
use Rattle.es_event.specs.declared.ledger_event.LedgerEvent.{LedgerEvent}
use Rattle.es_event.specs.declared.ledger_event.LedgerEvent.TheVariants.{Opened, Posted, Taken, Spent, Accessed, Drained, Acted}
use Rattle.es_event.specs.declared.ledger_event.Act.TheVariants.{Waiting, Passed, Ended, Slept, Notified, Woke, TimedOut}
use Rattle.es_event.specs.declared.row.Row.{Row}
use Rattle.es_event.specs.declared.row.Entry.{Entry}
use Rattle.es_event.specs.declared.row.Holder.{Holder}
use Rattle.es_event.specs.declared.row.Holder.TheVariants.{Agent, Port, Nobody}
use Rattle.es_event.specs.Access.{written}
use Rattle.es_event.specs.Rows.{row, held_by, moved, line_of, unspent, count_of}

-- the newest event first
abbrev pub Ledger : Type 0
Ledger = List LedgerEvent

-- Blocks

-- the block that the event makes, with its number of words
abbrev pub opens : LedgerEvent → Option (ℕ × ℕ)
opens (Opened b w s a) = Some (b, w)
opens (Posted a r m) = None
opens (Taken a r) = None
opens (Spent s) = None
opens (Accessed s i m old) = None
opens (Acted a d) = None
opens (Drained a r) = None

-- how many blocks were made; they are numbered from 1 in order of making
abbrev pub opened : Ledger → ℕ
opened [] = 0
opened (e ∷ earlier) = option_map_or (λ p. 1) (opens e) 0 + opened earlier

abbrev pub newest_size : Option (ℕ × ℕ) → ℕ → ℕ → ℕ
newest_size None b before = before
newest_size (Some p) b before = if p.0 == b then p.1 else before

-- how many words block b has, 0 where it was not made
abbrev pub size : Ledger → ℕ → ℕ
size [] b = 0
size (e ∷ earlier) b = newest_size (opens e) b (size earlier b)

-- Serials

abbrev pub ticket_in : Body → ℕ
ticket_in (Plain v) = 0
ticket_in (Block b s) = 1

-- how many tickets the event makes
abbrev pub issues : LedgerEvent → ℕ
issues (Opened b w s a) = 1
issues (Posted a r m) = ticket_in m
issues (Taken a r) = 0
issues (Spent s) = 0
issues (Accessed s i m old) = 0
issues (Acted a d) = 0
issues (Drained a r) = 0

-- how many tickets were made; their serials are numbered from 1 in order of making
abbrev pub serials : Ledger → ℕ
serials [] = 0
serials (e ∷ earlier) = issues e + serials earlier

-- Ports

abbrev pub is_at : ℕ → ℕ → ℕ → ℕ → Bool
is_at s r t u = (s == t) && (r == u)

-- the messages of the port of s and r after the event, of those before it
abbrev pub queued : LedgerEvent → ℕ → ℕ → List Body → List Body
queued (Opened b w k a) s r before = before
queued (Posted t u m) s r before = if is_at s r t u then before ++ m ∷ [] else before
queued (Taken t u) s r before = if is_at s r t u then drop 1 before else before
queued (Spent k) s r before = before
queued (Accessed k i m old) s r before = before
queued (Acted a d) s r before = before
queued (Drained t u) s r before = if is_at s r t u then drop 1 before else before

-- the messages from s to r that were posted and neither taken nor drained, the oldest first
abbrev pub port_of : Ledger → ℕ → ℕ → List Body
port_of [] s r = []
port_of (e ∷ earlier) s r = queued e s r (port_of earlier s r)

-- the oldest of them
abbrev pub front : Ledger → ℕ → ℕ → Option Body
front l s r = slice_get (port_of l s r) 0

abbrev pub serial_in : Body → Option ℕ
serial_in (Plain v) = None
serial_in (Block b s) = Some s

-- Tickets

-- the table after this ticket, if there is one, went to another holder
abbrev pub moved_if : Option ℕ → Holder → List Entry → List Entry
moved_if None who t = t
moved_if (Some s) who t = moved s who t

-- the line of a message's own ticket
abbrev pub posted_line : Ledger → ℕ → ℕ → Body → List Entry
posted_line l a r (Plain v) = []
posted_line l a r (Block b s) = held_by (Port a r) (row s b (size l b)) ∷ []

-- the table after an event that comes after l
abbrev pub table_after : Ledger → LedgerEvent → List Entry → List Entry
table_after l (Opened b w s a) t = t ++ held_by (Agent a) (row s b w) ∷ []
table_after l (Posted a r m) t = t ++ posted_line l a r m
table_after l (Taken a r) t = moved_if (option_and_then serial_in (front l a r)) (Agent r) t
table_after l (Spent s) t = moved s Nobody t
table_after l (Accessed s i m old) t = t
table_after l (Acted a d) t = t
table_after l (Drained a r) t = t

-- a line for each ticket that was made, by rising serial
abbrev pub table : Ledger → List Entry
table [] = []
table (e ∷ earlier) = table_after earlier e (table earlier)

-- the tickets that were made and not spent
abbrev pub rows : Ledger → List Row
rows l = unspent (table l)

-- how many of them are of block b
abbrev pub count : Ledger → ℕ → ℕ
count l b = count_of (rows l) b

abbrev pub is_opened : Ledger → ℕ → Bool
is_opened l b = nat_lt 0 b && nat_le b (opened l)

-- block b was made, and nobody holds a ticket of it
abbrev pub is_released : Ledger → ℕ → Bool
is_released l b = is_opened l b && (count l b == 0)

abbrev pub by_agent : Entry → Option (ℕ × Row)
by_agent e = of_holder e.holder
  where
    of_holder : Holder → Option (ℕ × Row)
    of_holder (Agent a) = Some (a, e.row)
    of_holder (Port s r) = None
    of_holder Nobody = None

-- the agent that holds the ticket of this serial, with its row
abbrev pub holder_of : Ledger → ℕ → Option (ℕ × Row)
holder_of l s = option_and_then by_agent (line_of s (table l))

-- Words

-- the block, the index and the word that is written through the ticket of this serial
abbrev pub written_by : Ledger → ℕ → ℕ → ℕ → Option (ℕ × ℕ × ℕ)
written_by l s i w = option_map (λ p. (p.1.block, i, w)) (holder_of l s)

-- those that an event writes that comes after l
abbrev pub writes : Ledger → LedgerEvent → Option (ℕ × ℕ × ℕ)
writes l (Opened b w s a) = None
writes l (Posted a r m) = None
writes l (Taken a r) = None
writes l (Spent s) = None
writes l (Accessed s i m old) = option_and_then (written_by l s i) (written m old)
writes l (Acted a d) = None
writes l (Drained a r) = None

abbrev pub newest_word : Option (ℕ × ℕ × ℕ) → ℕ → ℕ → ℕ → ℕ
newest_word None b i before = before
newest_word (Some p) b i before = if (p.0 == b) && (p.1 == i) then p.2 else before

-- the newest word at an index of block b, 0 at first
abbrev pub word : Ledger → ℕ → ℕ → ℕ
word [] b i = 0
word (e ∷ earlier) b i = newest_word (writes earlier e) b i (word earlier b i)

-- Waiting

-- the sender that agent b waits for after the event, of the one before it
abbrev pub awaited : LedgerEvent → ℕ → Option ℕ → Option ℕ
awaited (Opened b w s a) c before = before
awaited (Posted a r m) c before = before
awaited (Taken s r) c before = if r == c then None else before
awaited (Spent s) c before = before
awaited (Accessed s i m old) c before = before
awaited (Acted a (Waiting s)) c before = if a == c then Some s else before
awaited (Acted a (Passed s)) c before = if a == c then None else before
awaited (Acted a Ended) c before = before
awaited (Acted a (Slept s i w)) c before = before
awaited (Acted a (Notified s i n k)) c before = before
awaited (Acted a Woke) c before = before
awaited (Acted a TimedOut) c before = before
awaited (Drained s r) c before = before

-- the sender that agent a waits for, if it waits
abbrev pub waits : Ledger → ℕ → Option ℕ
waits [] a = None
waits (e ∷ earlier) a = awaited e a (waits earlier a)

abbrev pub is_end_of : LedgerEvent → ℕ → Bool
is_end_of (Opened b w s a) c = false
is_end_of (Posted a r m) c = false
is_end_of (Taken s r) c = false
is_end_of (Spent s) c = false
is_end_of (Accessed s i m old) c = false
is_end_of (Acted a (Waiting s)) c = false
is_end_of (Acted a (Passed s)) c = false
is_end_of (Acted a Ended) c = a == c
is_end_of (Acted a (Slept s i w)) c = false
is_end_of (Acted a (Notified s i n k)) c = false
is_end_of (Acted a Woke) c = false
is_end_of (Acted a TimedOut) c = false
is_end_of (Drained s r) c = false

-- agent a ended
abbrev pub ended : Ledger → ℕ → Bool
ended [] a = false
ended (e ∷ earlier) a = is_end_of e a || ended earlier a
