-- Internal: the pass that a pass over a ledger's history keeps, and that they say what the history says.
use Rattle.std.specs.Prelude.{ℕ, ◌≡◌, Bool, false, ◌&&◌, ◌==◌, nat_eq, List, [], map, Option, Some, None, unwrap_or, if◌then◌else◌}
use Rattle.std.specs.Option.{option_and_then, option_map, option_map_or, option_or}
use Rattle.std.specs.declared.alloc.Global.{Global}
use Rattle.std.specs.declared.hash.FoldHasher.{FoldHasher}
use Rattle.std.specs.declared.hash.BuildHasherDefault.{BuildHasherDefault}
use Rattle.std.specs.HashMap.{get, HashMap}
use Rattle.std.specs.declared.collections.VecDeque.{VecDeque}
use denote.Ref.{Bor}
use Rattle.es_event.specs.declared.ledger_event.Body.{Body}
use Rattle.es_event.specs.declared.ledger_event.Body.TheVariants.{Plain, Block}
use Rattle.es_event.specs.declared.ledger_event.LedgerEvent.{LedgerEvent}
use Rattle.es_event.specs.declared.ledger_event.LedgerEvent.TheVariants.{Opened, Posted, Taken, Spent, Accessed, Drained, Acted}
use Rattle.es_event.specs.declared.row.Entry.{Entry}
use Rattle.es_event.specs.declared.row.Holder.{Holder}
use Rattle.es_event.specs.declared.row.Holder.TheVariants.{Agent, Port, Nobody}
use Rattle.es_event.specs.Rows.{row, held_by, line_of}
use Rattle.es_event.specs.Ledger.{Ledger, size, port_of, front, serial_in, table, holder_of, waits}
use Rattle.es_event.specs.Waiters.{asleep}
use Rattle.es_match.specs.declared.ledger_pass.LedgerPass.{LedgerPass}
use Rattle.es_match.specs.declared.deed.Sleep.{Sleep}
use Rattle.es_match.specs.Deeds.{sleep_of, sleeps_after, words_in}
use Rattle.es_match.specs.Patience.{has_drained}

abbrev pub Map : Type 0 → Type 0 → Type 0
Map K V = HashMap K V (BuildHasherDefault FoldHasher)

-- the line of a serial
abbrev pub line_in : Map ℕ Entry → ℕ → Option Entry
line_in m s = get nat_eq m s

-- the number of words of a block
abbrev pub size_in : Map ℕ ℕ → ℕ → ℕ
size_in m b = unwrap_or (get nat_eq m b) 0

-- the sender that an agent waits for
abbrev pub waits_in : Map ℕ (Option ℕ) → ℕ → Option ℕ
waits_in m a = unwrap_or (get nat_eq m a) None

-- the sleep of an agent
abbrev pub sleep_in : Map ℕ (Option Sleep) → ℕ → Option Sleep
sleep_in m a = unwrap_or (get nat_eq m a) None

abbrev pub pair_eq : ℕ × ℕ → ℕ × ℕ → Bool
pair_eq p q = nat_eq p.0 q.0 && nat_eq p.1 q.1

abbrev pub bodies : List (Bor Body) → List Body
bodies bs = map (λ b. b.now) bs

-- the messages of a port
abbrev pub port_in : Map (ℕ × ℕ) (VecDeque (Bor Body) Global) → ℕ → ℕ → List Body
port_in m s r = option_map_or (λ q. bodies q.items) (get pair_eq m (s, r)) []

abbrev pub body_of : Option (Bor Body) → Option Body
body_of b = option_map (λ x. x.now) b

-- the agent p.1 has the ticket of serial p.0, waits for nobody and is awake, and no message was drained
pub record HoldsStill (l : Ledger) (p : ℕ × ℕ) : Type 0 where
  pub holder : option_map (λ q. q.0) (holder_of l p.0) ≡ Some p.1
  pub waits : waits l p.1 ≡ None
  pub awake : asleep l p.1 ≡ false
  pub drains : has_drained l ≡ false

-- the pass say what the history says
pub record Says (l : Ledger) (t : LedgerPass) : Type 0 where
  pub lines : (s : ℕ) → line_in t.lines s ≡ line_of s (table l)
  pub sizes : (b : ℕ) → size_in t.sizes b ≡ size l b
  pub mail : (s r : ℕ) → port_in t.mail s r ≡ port_of l s r
  pub waiting : (a : ℕ) → waits_in t.waiting a ≡ waits l a
  pub sleeping : (a : ℕ) → sleep_in t.sleeping a ≡ sleep_of l a
  pub drains : t.drained ≡ has_drained l

-- the sleep of agent a after an event, of that before it
abbrev pub sleeps_on : LedgerEvent → ℕ → Option Sleep → Option Sleep
sleeps_on (Opened b w s c) a before = before
sleeps_on (Posted c r m) a before = before
sleeps_on (Taken s r) a before = before
sleeps_on (Spent s) a before = before
sleeps_on (Accessed s i m old) a before = before
sleeps_on (Acted c d) a before = sleeps_after c d a before
sleeps_on (Drained s r) a before = before

-- One serial's line

-- a new line comes after all others
abbrev pub put_line : Entry → ℕ → Option Entry → Option Entry
put_line e q before = option_or before (if e.row.serial == q then Some e else None)

abbrev pub move_line : ℕ → Holder → ℕ → Option Entry → Option Entry
move_line k who q before = if k == q then option_map (λ e. held_by who e.row) before else before

abbrev pub post_line : ℕ → ℕ → ℕ → Body → ℕ → Option Entry → Option Entry
post_line words a r (Plain v) q before = before
post_line words a r (Block b s) q before = put_line (held_by (Port a r) (row s b words)) q before

-- the message that the event takes
abbrev pub taken_by : Ledger → LedgerEvent → Option Body
taken_by l (Opened b w s a) = None
taken_by l (Posted a r m) = None
taken_by l (Taken s r) = front l s r
taken_by l (Spent s) = None
taken_by l (Accessed s i m old) = None
taken_by l (Acted a d) = None
taken_by l (Drained s r) = None

-- the number of words of the block that the event posts
abbrev pub words_by : Ledger → LedgerEvent → ℕ
words_by l (Opened b w s a) = 0
words_by l (Posted a r m) = words_in l m
words_by l (Taken s r) = 0
words_by l (Spent s) = 0
words_by l (Accessed s i m old) = 0
words_by l (Acted a d) = 0
words_by l (Drained s r) = 0

-- the line of serial q after an event that takes this message or posts a block of so many words
abbrev pub line_after : Option Body → ℕ → LedgerEvent → ℕ → Option Entry → Option Entry
line_after m words (Opened b w s a) q before = put_line (held_by (Agent a) (row s b w)) q before
line_after m words (Posted a r body) q before = post_line words a r body q before
line_after m words (Taken s r) q before =
    option_map_or (λ k. move_line k (Agent r) q before) (option_and_then serial_in m) before
line_after m words (Spent s) q before = move_line s Nobody q before
line_after m words (Accessed s i done old) q before = before
line_after m words (Acted a d) q before = before
line_after m words (Drained s r) q before = before
