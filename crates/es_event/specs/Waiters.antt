-- To believe: the WaiterLists of the ledger: which agents sleep at which word (WaiterList Objects, Atomics.wait, Atomics.notify).
use Rattle.std.specs.Prelude.{ℕ, zero, suc, ◌==◌, ◌&&◌, not, Bool, true, false, List, [], ◌∷◌, ◌++◌, filter, length, take, if◌then◌else◌}
use Rattle.std.specs.List.{list_any}
use Rattle.std.specs.Option.{option_map_or}
use Rattle.es_event.specs.declared.ledger_event.LedgerEvent.TheVariants.{Opened, Posted, Taken, Spent, Accessed, Acted, Drained}
use Rattle.es_event.specs.declared.ledger_event.Act.{Act}
use Rattle.es_event.specs.declared.ledger_event.Act.TheVariants.{Waiting, Passed, Ended, Slept, Notified, Woke, TimedOut}
use Rattle.es_event.specs.declared.waiter.Waiter.{Waiter}
use Rattle.es_event.specs.Ledger.{Ledger, holder_of}

abbrev pub waiter : ℕ → ℕ → ℕ → Waiter
waiter a b i = record { agent = a; block = b; index = i }

abbrev pub is_at : ℕ → ℕ → Waiter → Bool
is_at b i w = (w.block == b) && (w.index == i)

-- the block of the ticket of this serial
abbrev pub block_by : Ledger → ℕ → ℕ
block_by l s = option_map_or (λ p. p.1.block) (holder_of l s) 0

-- the waiters without the first at a word
abbrev pub without_one : ℕ → ℕ → List Waiter → List Waiter
without_one b i [] = []
without_one b i (w ∷ ws) = if is_at b i w then ws else w ∷ without_one b i ws

-- without the first n there (RemoveWaiters)
abbrev pub without_first : ℕ → ℕ → ℕ → List Waiter → List Waiter
without_first b i zero ws = ws
without_first b i (suc n) ws = without_one b i (without_first b i n ws)

-- after an act of agent a, which comes after l: who sleeps goes last (AddWaiter); who is notified leaves (NotifyWaiter), and
-- so does who sleeps no longer than its time-out, or ends (RemoveWaiter)
abbrev pub waiters_after : Ledger → ℕ → Act → List Waiter → List Waiter
waiters_after l a (Waiting s) ws = ws
waiters_after l a (Passed s) ws = ws
waiters_after l a Ended ws = filter (λ w. not (w.agent == a)) ws
waiters_after l a (Slept s i w) ws = ws ++ waiter a (block_by l s) i ∷ []
waiters_after l a (Notified s i n k) ws = without_first (block_by l s) i n ws
waiters_after l a Woke ws = ws
waiters_after l a TimedOut ws = filter (λ w. not (w.agent == a)) ws

-- the agents that sleep and that no notify took, in the order in which they began to
abbrev pub waiters : Ledger → List Waiter
waiters [] = []
waiters (Opened b w s a ∷ earlier) = waiters earlier
waiters (Posted a r m ∷ earlier) = waiters earlier
waiters (Taken s r ∷ earlier) = waiters earlier
waiters (Spent s ∷ earlier) = waiters earlier
waiters (Accessed s i m old ∷ earlier) = waiters earlier
waiters (Acted a d ∷ earlier) = waiters_after earlier a d (waiters earlier)
waiters (Drained s r ∷ earlier) = waiters earlier

-- the WaiterList of the word at an index of block b
abbrev pub list_at : Ledger → ℕ → ℕ → List Waiter
list_at l b i = filter (is_at b i) (waiters l)

-- how many agents a notify takes there that takes n at most
abbrev pub taken_there : Ledger → ℕ → ℕ → ℕ → ℕ
taken_there l b i n = length (take n (list_at l b i))

-- agent a is in a WaiterList
abbrev pub is_listed : Ledger → ℕ → Bool
is_listed l a = list_any (λ w. w.agent == a) (waiters l)

-- whether agent a sleeps after an act of agent c, of whether it did before
abbrev pub asleep_after : ℕ → Act → ℕ → Bool → Bool
asleep_after c (Waiting s) a before = before
asleep_after c (Passed s) a before = before
asleep_after c Ended a before = if c == a then false else before
asleep_after c (Slept s i w) a before = if c == a then true else before
asleep_after c (Notified s i n k) a before = before
asleep_after c Woke a before = if c == a then false else before
asleep_after c TimedOut a before = if c == a then false else before

-- agent a sleeps: it began to, and has not gone on or ended since
abbrev pub asleep : Ledger → ℕ → Bool
asleep [] a = false
asleep (Opened b w s c ∷ earlier) a = asleep earlier a
asleep (Posted c r m ∷ earlier) a = asleep earlier a
asleep (Taken s r ∷ earlier) a = asleep earlier a
asleep (Spent s ∷ earlier) a = asleep earlier a
asleep (Accessed s i m old ∷ earlier) a = asleep earlier a
asleep (Acted c d ∷ earlier) a = asleep_after c d a (asleep earlier a)
asleep (Drained s r ∷ earlier) a = asleep earlier a
