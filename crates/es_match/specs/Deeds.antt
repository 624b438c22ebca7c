-- To believe: what an event of the ledger is to the agent that does it, and an agent's part in the ledger's history.
use Rattle.std.specs.Prelude.{ℕ, Bool, true, false, not, ◌&&◌, ◌==◌, List, [], ◌∷◌, ◌++◌, Option, Some, None, if◌then◌else◌}
use Rattle.std.specs.Option.{option_map, option_map_or}
use Rattle.es_event.specs.declared.access.Change.{Change}
use Rattle.es_event.specs.declared.ledger_event.Body.{Body}
use Rattle.es_event.specs.declared.ledger_event.Body.TheVariants.{Plain, Block}
use Rattle.es_event.specs.declared.ledger_event.LedgerEvent.{LedgerEvent}
use Rattle.es_event.specs.declared.ledger_event.LedgerEvent.TheVariants.{Opened, Posted, Taken, Spent, Accessed, Drained, Acted}
use Rattle.es_event.specs.declared.ledger_event.Act.{Act}
use Rattle.es_event.specs.declared.ledger_event.Act.TheVariants.{Waiting, Passed, Ended, Slept, Notified, Woke, TimedOut}
use Rattle.es_event.specs.Ledger.{Ledger, size, front, holder_of}
use Rattle.es_match.specs.declared.deed.Sleep.{Sleep}

-- what an agent does to the ledger; a message that it takes is none where the port was empty, and comes with the number of
-- words of its block
pub data Deed : Type 0 where
  Opens : (block words serial : ℕ) → Deed
  Posts : (receiver : ℕ) (body : Body) → Deed
  Takes : (sender : ℕ) (message : Option Body) (words : ℕ) → Deed
  Spends : (serial : ℕ) → Deed
  Accesses : (serial index : ℕ) (change : Change) (old : ℕ) → Deed
  Waits : (sender : ℕ) → Deed
  Passes : (sender : ℕ) → Deed
  Ends : Deed
  Sleeps : (serial index word : ℕ) → Deed
  Notifies : (serial index count taken : ℕ) → Deed
  Wakes : (sleep : Option Sleep) → Deed
  TimesOut : (sleep : Option Sleep) → Deed

-- whether agent a sleeps after an act of agent c, and through which ticket, at which index and word it began to
abbrev pub sleeps_after : ℕ → Act → ℕ → Option Sleep → Option Sleep
sleeps_after c (Waiting s) a before = before
sleeps_after c (Passed s) a before = before
sleeps_after c Ended a before = if c == a then None else before
sleeps_after c (Slept s i w) a before = if c == a then Some (record { serial = s; index = i; word = w }) else before
sleeps_after c (Notified s i n k) a before = before
sleeps_after c Woke a before = if c == a then None else before
sleeps_after c TimedOut a before = if c == a then None else before

-- the sleep of agent a, from which it has not gone on yet
abbrev pub sleep_of : Ledger → ℕ → Option Sleep
sleep_of [] a = None
sleep_of (Opened b w s c ∷ earlier) a = sleep_of earlier a
sleep_of (Posted c r m ∷ earlier) a = sleep_of earlier a
sleep_of (Taken s r ∷ earlier) a = sleep_of earlier a
sleep_of (Spent s ∷ earlier) a = sleep_of earlier a
sleep_of (Accessed s i m old ∷ earlier) a = sleep_of earlier a
sleep_of (Acted c d ∷ earlier) a = sleeps_after c d a (sleep_of earlier a)
sleep_of (Drained s r ∷ earlier) a = sleep_of earlier a

-- whose deed it is, and what
abbrev pub Owned : Type 0
Owned = Option (ℕ × Deed)

-- the deed is that of the agent that holds the ticket of this serial
abbrev pub by_holder : Ledger → ℕ → Deed → Owned
by_holder l s d = option_map (λ p. (p.0, d)) (holder_of l s)

-- how many words the block has that a message carries
abbrev pub words_in : Ledger → Body → ℕ
words_in l (Plain v) = 0
words_in l (Block b s) = size l b

abbrev pub taking : Ledger → ℕ → Option Body → Deed
taking l s m = Takes s m (option_map_or (words_in l) m 0)

-- an act of an agent whose sleep this is, if it sleeps: who goes on ends it
abbrev pub acting : Option Sleep → Act → Deed
acting o (Waiting s) = Waits s
acting o (Passed s) = Passes s
acting o Ended = Ends
acting o (Slept s i w) = Sleeps s i w
acting o (Notified s i n k) = Notifies s i n k
acting o Woke = Wakes o
acting o TimedOut = TimesOut o

-- what an event after l is; a drain is nobody's deed, nor is the spending of a ticket that no agent holds
abbrev pub deed : Ledger → LedgerEvent → Owned
deed l (Opened b w s a) = Some (a, Opens b w s)
deed l (Posted a r m) = Some (a, Posts r m)
deed l (Taken s r) = Some (r, taking l s (front l s r))
deed l (Spent s) = by_holder l s (Spends s)
deed l (Accessed s i m old) = by_holder l s (Accesses s i m old)
deed l (Acted a d) = Some (a, acting (sleep_of l a) d)
deed l (Drained s r) = None

-- an agent begins to wait for a message, or to sleep at a word: its history tells it by what ends it
abbrev pub is_wait : Deed → Bool
is_wait (Opens b w s) = false
is_wait (Posts r m) = false
is_wait (Takes s m w) = false
is_wait (Spends s) = false
is_wait (Accesses s i m old) = false
is_wait (Waits s) = true
is_wait (Passes s) = false
is_wait Ends = false
is_wait (Sleeps s i w) = true
is_wait (Notifies s i n k) = false
is_wait (Wakes o) = false
is_wait (TimesOut o) = false

abbrev pub is_sleep : Deed → Bool
is_sleep (Opens b w s) = false
is_sleep (Posts r m) = false
is_sleep (Takes s m w) = false
is_sleep (Spends s) = false
is_sleep (Accesses s i m old) = false
is_sleep (Waits s) = false
is_sleep (Passes s) = false
is_sleep Ends = false
is_sleep (Sleeps s i w) = true
is_sleep (Notifies s i n k) = false
is_sleep (Wakes o) = false
is_sleep (TimesOut o) = false

-- agent a's deed, unless it begins a wait or a sleep
abbrev pub part_of : ℕ → Owned → List Deed
part_of a None = []
part_of a (Some p) = if (p.0 == a) && not (is_wait p.1) then p.1 ∷ [] else []

-- agent a's part in the ledger's history, without its waits and beginnings of sleeps, the oldest first
abbrev pub part : Ledger → ℕ → List Deed
part [] a = []
part (e ∷ earlier) a = part earlier a ++ part_of a (deed earlier e)
