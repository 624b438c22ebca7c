-- Internal: a cluster by turns, told by its agents' own names.
use Rattle.std.specs.Prelude.{ℕ, ◌≡◌, ◌≢◌, ◌≤◌, ◌<◌, ◌==◌, ⊤, List, [], ◌∷◌, ◌++◌, drop, length, map, if◌then◌else◌}
use Rattle.es_value.specs.declared.value.Value.{Value}
use Rattle.es_event.specs.declared.ledger_event.Body.{Body}
use Rattle.es_event.specs.declared.ledger_event.Body.TheVariants.{Plain, Block}
use Rattle.es_event.specs.declared.ledger_event.LedgerEvent.{LedgerEvent}
use Rattle.es_event.specs.declared.ledger_event.LedgerEvent.TheVariants.{Opened, Posted, Taken, Spent, Accessed, Drained, Acted}
use Rattle.es_event.specs.declared.row.Row.{Row}
use Rattle.es_event.specs.Ledger.{Ledger, is_at, opened, port_of, size, word}
use Rattle.es_event.specs.Rows.{row}
use Rattle.es_event.specs.Sharing.{Buffers, block_of}
use Rattle.es_match.specs.Deeds.{Deed, Opens, Posts, Takes, Spends, Accesses, Waits, Passes, Ends, part, Sleeps, Notifies, Wakes, TimesOut}
use Rattle.es_record.specs.AgentView.{AgentView}
use Rattle.es_laws.specs.Memory.{is_write}
use Rattle.es_laws.specs.Races.{Mark, MarkedAccess, known, marked}
use Rattle.es_cluster.specs.State.{ClusterView}
use Rattle.es_theorems.specs.Alone.{Letter, Local, Locals, Lore, Touched, Words, World, addressed, named, over_block, plain, times}
use Rattle.es_theorems.specs.Weights.{weigh}

-- Other names of blocks

abbrev pub renamed_row : (ℕ → ℕ) → Row → Row
renamed_row f r = row 0 (f r.block) r.words

abbrev pub renamed : (ℕ → ℕ) → Buffers → Buffers
renamed f over = map (λ p. (p.0, renamed_row f p.1)) over

-- they tell apart what is over different blocks, and nothing else; what is over none is over none
pub record TellsApart (f : ℕ → ℕ) (over : Buffers) : Type 0 where
  pub none : f 0 ≡ 0
  pub apart : (v u : Value) → (f (block_of over v) == f (block_of over u)) ≡ (block_of over v == block_of over u)

-- Names by who opened a block, and as which of its own

-- how many blocks these deeds open
abbrev pub opens_in : List Deed → ℕ
opens_in ds = weigh 1 0 0 ds

abbrev pub named_by : ℕ → Ledger → LedgerEvent → ℕ → ℕ → ℕ
named_by n l (Opened b w s a) c before = if b == c then named n a (opens_in (part l a)) else before
named_by n l (Posted a r m) c before = before
named_by n l (Taken s r) c before = before
named_by n l (Spent s) c before = before
named_by n l (Accessed s i m old) c before = before
named_by n l (Acted a d) c before = before
named_by n l (Drained s r) c before = before

-- the name of a block, 0 where it was not opened
abbrev pub name : ℕ → Ledger → ℕ → ℕ
name n [] c = 0
name n (e ∷ earlier) c = named_by n earlier e c (name n earlier c)

-- What the agents posted and took

abbrev pub letter_of : ℕ → Ledger → Body → Letter
letter_of n l (Plain v) = plain v
letter_of n l (Block b s) = over_block (row 0 (name n l b) (size l b))

abbrev pub posted_in : (Body → Letter) → Deed → List (ℕ × Letter)
posted_in f (Opens b w s) = []
posted_in f (Posts r m) = (r, f m) ∷ []
posted_in f (Takes s m w) = []
posted_in f (Spends s) = []
posted_in f (Accesses s i m old) = []
posted_in f (Waits s) = []
posted_in f (Passes s) = []
posted_in f Ends = []
posted_in f (Sleeps s i w) = []
posted_in f (Notifies s i n k) = []
posted_in f (Wakes o) = []
posted_in f (TimesOut o) = []

abbrev pub took_in : Deed → List ℕ
took_in (Opens b w s) = []
took_in (Posts r m) = []
took_in (Takes s m w) = s ∷ []
took_in (Spends s) = []
took_in (Accesses s i m old) = []
took_in (Waits s) = []
took_in (Passes s) = []
took_in Ends = []
took_in (Sleeps s i w) = []
took_in (Notifies s i n k) = []
took_in (Wakes o) = []
took_in (TimesOut o) = []

-- what these deeds sent, and of whom they took messages, the oldest first
abbrev pub sent_in : (Body → Letter) → List Deed → List (ℕ × Letter)
sent_in f [] = []
sent_in f (d ∷ ds) = posted_in f d ++ sent_in f ds

abbrev pub got_in : List Deed → List ℕ
got_in [] = []
got_in (d ∷ ds) = took_in d ++ got_in ds

abbrev pub told_after : Ledger → LedgerEvent → ℕ → ℕ → List (List Mark) → List (List Mark)
told_after l (Opened b w k a) s r before = before
told_after l (Posted t u m) s r before = if is_at s r t u then before ++ (known l).knows s ∷ [] else before
told_after l (Taken t u) s r before = before
told_after l (Spent k) s r before = before
told_after l (Accessed k i m old) s r before = before
told_after l (Acted a d) s r before = before
told_after l (Drained t u) s r before = before

-- of each message that s posted to r, the oldest first, the accesses of which s knew
abbrev pub told_of : Ledger → ℕ → ℕ → List (List Mark)
told_of [] s r = []
told_of (e ∷ earlier) s r = told_after earlier e s r (told_of earlier s r)

-- the messages from s to r that lie there are those that s posted, less those that r took; and so is what they tell
pub record IsPort (f : Body → Letter) (l : Ledger) (s r : ℕ) : Type 0 where
  pub lies : map f (port_of l s r) ≡ drop (times s (got_in (part l r))) (addressed r (sent_in f (part l s)))
  pub within : times s (got_in (part l r)) ≤ length (addressed r (sent_in f (part l s)))
  pub tells : (known l).carried s r ≡ drop (times s (got_in (part l r))) (told_of l s r)
  pub many : length (told_of l s r) ≡ length (addressed r (sent_in f (part l s)))

-- an agent, and all of them
abbrev pub local_of : ℕ → Ledger → AgentView → Local
local_of n l b = record { plan = b.plan; over = renamed (name n l) b.over; history = b.history; sent = sent_in (letter_of n l) (part l b.number); got = got_in (part l b.number) }

abbrev pub locals_of : ClusterView → Locals
locals_of c = map (local_of c.ledger.agents c.ledger.history) c.agents

-- the agent that opened a block, and how many of its own it had opened before
pub record Named (n : ℕ) (l : Ledger) (b : ℕ) : Type 0 where
  pub agent : ℕ
  pub before : ℕ
  pub known : agent < n
  pub earlier : before < opens_in (part l agent)
  pub is : name n l b ≡ named n agent before

-- these buffers are over blocks that were opened
abbrev pub AreOpened : Ledger → Buffers → Type 0
AreOpened l [] = ⊤
AreOpened l (p ∷ over) = (p.1.block ≤ opened l) × AreOpened l over

-- the block of a message was opened; so were those of all that these deeds post
abbrev pub IsOpened : Ledger → Body → Type 0
IsOpened l (Plain v) = ⊤
IsOpened l (Block b s) = b ≤ opened l

abbrev pub IsSent : Ledger → Deed → Type 0
IsSent l (Opens b w s) = ⊤
IsSent l (Posts r m) = IsOpened l m
IsSent l (Takes s m w) = ⊤
IsSent l (Spends s) = ⊤
IsSent l (Accesses s i m old) = ⊤
IsSent l (Waits s) = ⊤
IsSent l (Passes s) = ⊤
IsSent l Ends = ⊤
IsSent l (Sleeps s i w) = ⊤
IsSent l (Notifies s i n k) = ⊤
IsSent l (Wakes o) = ⊤
IsSent l (TimesOut o) = ⊤

abbrev pub AreSent : Ledger → List Deed → Type 0
AreSent l [] = ⊤
AreSent l (d ∷ ds) = IsSent l d × AreSent l ds

-- What the agents know

abbrev pub touched_as : (ℕ → ℕ) → MarkedAccess → Touched
touched_as f x = record { block = f x.access.block; index = x.access.index; writes = is_write x.access; knew = x.knew }

-- those of agent i, the oldest first, of accesses by falling age
abbrev pub touched_in : (ℕ → ℕ) → List MarkedAccess → ℕ → List Touched
touched_in f [] i = []
touched_in f (x ∷ xs) i = if x.access.agent == i then touched_in f xs i ++ touched_as f x ∷ [] else touched_in f xs i

abbrev pub lore_of : ℕ → Ledger → ℕ → Lore
lore_of n l i = record { knows = (known l).knows i; told = told_of l i; touched = touched_in (name n l) (marked l) i }

-- the words of opened blocks under their names; all else is 0
pub record HasWords (n : ℕ) (l : Ledger) (m : Words) : Type 0 where
  pub named_so : (b x : ℕ) → 0 < b → b ≤ opened l → m (name n l b) x ≡ word l b x
  pub others : (c x : ℕ) → ((b : ℕ) → 0 < b → b ≤ opened l → name n l b ≢ c) → m c x ≡ 0

abbrev pub world_of : ClusterView → Words → World
world_of c m = record { locals = locals_of c; lore = lore_of c.ledger.agents c.ledger.history; words = m }
