-- Internal: what holds of a ledger at any time: its history is legal, and what it keeps is what the history says.
use Rattle.std.specs.Prelude.{ℕ, zero, suc, ◌≡◌, ◌<◌, ◌≤◌, ◌+◌, ◌*◌, false, List, [], ◌∷◌, Bool, Option, Some, None, is_some, length, map, slice_index_or, if◌then◌else◌}
use Rattle.std.specs.Option.{option_map}
use Rattle.es_event.specs.declared.row.Entry.{Entry}
use Rattle.es_event.specs.declared.row.Row.{Row}
use Rattle.es_event.specs.Rows.{line_of}
use Rattle.es_event.specs.Ledger.{Ledger, opened, size, table, rows, count, word, waits as awaits, ended, port_of}
use Rattle.es_event.specs.declared.waiter.Waiter.{Waiter}
use Rattle.es_event.specs.Waiters.{asleep, waiters}
use Rattle.es_event.specs.LegalLedger.{LegalLedger}
use Rattle.es_ledger.specs.declared.blocks.Counted.{Counted}
use Rattle.es_ledger.specs.declared.message.Letter.{Letter}
use Rattle.es_ledger.specs.declared.message.Letter.TheVariants.{Plain, Block}
use Rattle.es_ledger.specs.Blocks.{tickets_at, words_at}
use Rattle.es_ledger.specs.Letters.{body_of}
use Rattle.es_ledger.specs.Ports.{QueueView, letters_at}
use Rattle.es_ledger.specs.Laws.{sum_below}

-- how many agents below n have not ended
abbrev pub left : Ledger → ℕ → ℕ
left l zero = 0
left l (suc n) = (if ended l n then 0 else 1) + left l n

-- how many waits and sleeps of the agents below n are to end
abbrev pub waiting : Ledger → ℕ → ℕ
waiting l n = sum_below n (λ a. (if is_some (awaits l a) then 1 else 0) + (if asleep l a then 1 else 0))

-- what the table has for the ticket of this serial
abbrev pub row_at : ℕ → List Entry → Option Row
row_at k t = option_map (λ e. e.row) (line_of k t)

-- the table has the row of the ticket in this letter, if there is one
abbrev pub IsNamed : {L : Type 0} → List Entry → Letter L → Type 0
IsNamed t (Plain v) = Unit {0}
IsNamed t (Block row) = row_at row.serial t ≡ Some row

abbrev pub AreNamed : {L : Type 0} → List Entry → List (Letter L) → Type 0
AreNamed t [] = Unit {0}
AreNamed t (x ∷ q) = IsNamed t x × AreNamed t q

-- of n agents: for whom each waits, and the messages of the ports
pub record Mail {L : Type 0} (n : ℕ) (l : Ledger) (waits : List (Option ℕ)) (queues : List (QueueView L)) : Type 0 where
  pub columns : length queues ≡ n * 8
  pub ports : (s r : ℕ) → s < n → r < 8 → map body_of (letters_at queues s r) ≡ port_of l s r
  -- each ticket in a message is the one that the table has for its serial, and so it lies in the port of the message
  pub named : (s r : ℕ) → s < n → r < 8 → AreNamed (table l) (letters_at queues s r)
  pub agents : length waits ≡ n
  pub awaited : (a : ℕ) → a < n → slice_index_or waits a None ≡ awaits l a
  pub senders : (a s : ℕ) → a < n → awaits l a ≡ Some s → s < n

-- of n agents: the WaiterLists, and which agents sleep
pub record Sleepers (n : ℕ) (l : Ledger) (listed : List Waiter) (sleeping : List Bool) : Type 0 where
  pub lists : listed ≡ waiters l
  pub agents : length sleeping ≡ n
  pub each : (a : ℕ) → a < n → slice_index_or sleeping a false ≡ asleep l a

-- what a ledger keeps beside its history: the lines of the table, the blocks, which agents ended, whom each awaits, the WaiterLists, which
-- agents sleep, the messages and how many there are, and for how many more events there is room
pub record Columns (L : Type 0) : Type 0 where
  pub lines : List Entry
  pub blocks : List Counted
  pub ends : List Bool
  pub waits : List (Option ℕ)
  pub listed : List Waiter
  pub sleeping : List Bool
  pub queues : List (QueueView L)
  pub messages : ℕ
  pub places : ℕ

-- of a ledger of n agents
pub record LedgerTies {L : Type 0} (n : ℕ) (l : Ledger) (k : Columns L) : Type 0 where
  pub few : n < 9
  pub legal : LegalLedger n l
  pub tabled : k.lines ≡ table l
  pub made : length k.blocks ≡ opened l
  pub tickets : (b : ℕ) → tickets_at k.blocks b ≡ count l b
  -- of what is not released
  pub sizes : (b : ℕ) → 0 < count l b → length (words_at k.blocks b) ≡ size l b
  pub words : (b i : ℕ) → 0 < count l b → slice_index_or (words_at k.blocks b) i 0 ≡ word l b i
  pub agents : length k.ends ≡ n
  pub over : (a : ℕ) → a < n → slice_index_or k.ends a false ≡ ended l a
  pub mail : Mail n l k.waits k.queues
  pub sleepers : Sleepers n l k.listed k.sleeping
  -- for the spending of each ticket, the end of each agent, the end of each wait and each sleep, and the leaving of each message
  pub room : length (rows l) + left l n + waiting l n + k.messages ≤ k.places
