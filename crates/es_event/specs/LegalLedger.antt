-- To believe: which histories of the ledger of n agents are legal (Agent Clusters, Data Blocks, The Atomics Object).
use Rattle.std.specs.Prelude.{ℕ, zero, suc, ◌≡◌, ◌≢◌, ◌+◌, ◌<◌, ◌&&◌, ◌||◌, not, ⊤, Bool, true, false, [], ◌∷◌, Option, Some, None, is_some, nat_lt}
use Rattle.std.specs.Option.{option_and_then, option_map_or}
use Rattle.es_value.specs.Values.{identity}
use Rattle.es_event.specs.declared.ledger_event.Body.{Body}
use Rattle.es_event.specs.declared.ledger_event.Body.TheVariants.{Plain, Block}
use Rattle.es_event.specs.declared.ledger_event.LedgerEvent.{LedgerEvent}
use Rattle.es_event.specs.declared.ledger_event.LedgerEvent.TheVariants.{Opened, Posted, Taken, Spent, Accessed, Drained, Acted}
use Rattle.es_event.specs.declared.ledger_event.Act.{Act}
use Rattle.es_event.specs.declared.ledger_event.Act.TheVariants.{Waiting, Passed, Ended, Slept, Notified, Woke, TimedOut}
use Rattle.es_event.specs.declared.row.Row.{Row}
use Rattle.es_event.specs.Access.{IsStorable}
use Rattle.es_event.specs.Rows.{held, count_of}
use Rattle.es_event.specs.Waiters.{asleep, is_listed, taken_there}
use Rattle.es_event.specs.Ledger.{Ledger, opened, serials, table, front, serial_in, holder_of, word, waits, ended}

-- Skipping

-- the port of s and r has a message
abbrev pub has_message : Ledger → ℕ → ℕ → Bool
has_message l s r = is_some (front l s r)

-- agent a waits at an empty port whose sender has not ended, or sleeps and no notify took it
abbrev pub is_stuck : Ledger → ℕ → Bool
is_stuck l a = is_listed l a || option_map_or (λ s. not (has_message l s a) && not (ended l s)) (waits l a) false

-- each agent below n has ended or is stuck
abbrev pub all_stuck : Ledger → ℕ → Bool
all_stuck l zero = true
all_stuck l (suc n) = (ended l n || is_stuck l n) && all_stuck l n

-- each agent below n has ended
abbrev pub all_ended : Ledger → ℕ → Bool
all_ended l zero = true
all_ended l (suc n) = ended l n && all_ended l n

-- of n agents none can go on, and a is the lowest that has not ended
abbrev pub is_chosen : Ledger → ℕ → ℕ → Bool
is_chosen l n a = all_stuck l n && (all_ended l a && not (ended l a))

-- of n agents, a that waits for s is to skip its job: the port is empty, and the sender has ended or none can go on
abbrev pub skips : Ledger → ℕ → ℕ → ℕ → Bool
skips l n a s = not (has_message l s a) && (ended l s || is_chosen l n a)

-- What may come next

-- an agent holds the ticket, its block has a word at this index, and the row is as asked for
abbrev pub Reaches : Option (ℕ × Row) → ℕ → (Row → Type 0) → Type 0
Reaches None i asked = ⊥
Reaches (Some p) i asked = (i < p.1.words) × asked p.1

-- and that agent is a
abbrev pub ReachesAs : ℕ → Option (ℕ × Row) → ℕ → (Row → Type 0) → Type 0
ReachesAs a None i asked = ⊥
ReachesAs a (Some p) i asked = (p.0 ≡ a) × (i < p.1.words) × asked p.1

-- agent a holds a ticket of block b
abbrev pub holds_block : Ledger → ℕ → ℕ → Bool
holds_block l a b = nat_lt 0 (count_of (held a (table l)) b)

-- a value has no identity; a message's own ticket has the next serial, and the sender holds one of the block
abbrev pub IsPostable : Ledger → ℕ → Body → Type 0
IsPostable l a (Plain v) = identity v ≡ None
IsPostable l a (Block b s) = (s ≡ serials l + 1) × (holds_block l a b ≡ true)

-- agent a may do this after l
abbrev pub MayAct : ℕ → Ledger → ℕ → Act → Type 0
MayAct n l a (Waiting s) = (a < n) × (s < n) × (a ≢ s) × (has_message l s a ≡ false) × (waits l a ≡ None) × (ended l a ≡ false) × (asleep l a ≡ false)
MayAct n l a (Passed s) = (waits l a ≡ Some s) × (skips l n a s ≡ true)
MayAct n l a Ended = (a < n) × (ended l a ≡ false)
MayAct n l a (Slept s i w) = ReachesAs a (holder_of l s) i (λ r. w ≡ word l r.block i) × (waits l a ≡ None) × (ended l a ≡ false) × (asleep l a ≡ false)
MayAct n l a (Notified s i m k) = ReachesAs a (holder_of l s) i (λ r. k ≡ taken_there l r.block i m)
MayAct n l a Woke = (asleep l a ≡ true) × (is_listed l a ≡ false)
MayAct n l a TimedOut = (is_listed l a ≡ true) × (is_chosen l n a ≡ true)

-- the event may come after l
abbrev pub MayCome : ℕ → Ledger → LedgerEvent → Type 0
MayCome n l (Opened b w s a) = (b ≡ opened l + 1) × (s ≡ serials l + 1) × (a < n)
MayCome n l (Posted a r m) = (a < n) × (r < n) × (a ≢ r) × IsPostable l a m
MayCome n l (Taken s r) = has_message l s r ≡ true
MayCome n l (Spent s) = is_some (holder_of l s) ≡ true
MayCome n l (Accessed s i m old) = Reaches (holder_of l s) i (λ r. (old ≡ word l r.block i) × IsStorable m)
MayCome n l (Acted a d) = MayAct n l a d
MayCome n l (Drained s r) = (all_ended l n ≡ true) × (has_message l s r ≡ true)

-- the serial of the ticket that lay in the message that was drained last, and has to be spent next
abbrev pub owed : Ledger → Option ℕ
owed [] = None
owed (Opened b w s a ∷ earlier) = None
owed (Posted a r m ∷ earlier) = None
owed (Taken s r ∷ earlier) = None
owed (Spent s ∷ earlier) = None
owed (Accessed s i m old ∷ earlier) = None
owed (Acted a d ∷ earlier) = None
owed (Drained s r ∷ earlier) = option_and_then serial_in (front earlier s r)

-- where a ticket is owed, it is spent, and nothing else comes
abbrev pub ComesNext : ℕ → Ledger → LedgerEvent → Option ℕ → Type 0
ComesNext n l e None = MayCome n l e
ComesNext n l e (Some s) = e ≡ Spent s

abbrev pub LegalSoFar : ℕ → Ledger → Type 0
LegalSoFar n [] = ⊤
LegalSoFar n (e ∷ earlier) = ComesNext n earlier e (owed earlier) × LegalSoFar n earlier

-- each event is one that may come after those before it, and no ticket is owed
abbrev pub LegalLedger : ℕ → Ledger → Type 0
LegalLedger n l = LegalSoFar n l × (owed l ≡ None)
