-- To believe: which deeds meet what an agent asks, and the tickets of its buffers after them.
use Rattle.std.specs.Prelude.{ℕ, ℤ, pos, Bool, true, false, not, ◌&&◌, ◌||◌, ◌==◌, List, [], ◌∷◌, ◌++◌, filter, map, Option, Some, None, is_some, if◌then◌else◌}
use Rattle.std.specs.Option.{option_and_then, option_map, option_map_or}
use Rattle.std.specs.Ordering.{int_eq}
use Rattle.es_value.specs.Values.{is_same}
use Rattle.es_value.specs.declared.value.Value.{Value}
use Rattle.es_value.specs.declared.value.Value.TheVariants.{Number, Boolean}
use Rattle.es_event.specs.declared.access.Access.{Access}
use Rattle.es_event.specs.declared.access.Change.{Change}
use Rattle.es_event.specs.declared.access.WaitResult.{WaitResult}
use Rattle.es_event.specs.declared.ledger_event.Body.{Body}
use Rattle.es_event.specs.declared.ledger_event.Body.TheVariants.{Plain, Block}
use Rattle.es_event.specs.declared.row.Row.{Row}
use Rattle.es_event.specs.Access.{change_by, is_same_change}
use Rattle.es_event.specs.Identities.{is_in, object_of}
use Rattle.es_event.specs.Rows.{row}
use Rattle.es_event.specs.Sharing.{row_of}
use Rattle.es_match.specs.Asks.{Asking, nothing, to_open, to_measure, to_compare, to_access, to_miss, to_sleep, to_notify, to_post, to_receive, to_refuse, to_pass, to_empty, to_close}
use Rattle.es_match.specs.declared.deed.Sleep.{Sleep}
use Rattle.es_match.specs.Deeds.{Deed, Opens, Posts, Takes, Spends, Accesses, Passes, Ends, Notifies, Wakes, TimesOut}

-- an agent's tickets by buffer object, the oldest first
abbrev pub Tickets : Type 0
Tickets = List (ℕ × Row)

-- the value is a buffer with a ticket that passes the test
abbrev pub has_ticket : Tickets → Value → (Row → Bool) → Bool
has_ticket t v test = option_map_or test (row_of t v) false

abbrev pub is_ticket : Tickets → Value → ℕ → Bool
is_ticket t v s = has_ticket t v (λ r. r.serial == s)

abbrev pub is_number : Value → ℕ → Bool
is_number v n = is_same v (Number (pos n))

abbrev pub same_index : ℤ → ℕ → Bool
same_index i n = int_eq i (pos n)

abbrev pub is_object : Value → Bool
is_object v = is_some (object_of v)

-- One deed for each command

abbrev pub add_ticket : Tickets → Value → Row → Option Tickets
add_ticket t v r = option_map (λ o. t ++ (o, r) ∷ []) (object_of v)

abbrev pub some_if : {A : Type 0} → Bool → A → Option A
some_if true a = Some a
some_if false a = None

abbrev pub opening : Tickets → ℕ → Value → Deed → Option Tickets
opening t n v (Opens b w s) = if w == n then add_ticket t v (row s b w) else None
opening t n v _ = None

-- the answer is the word that was there, where the command gives it
abbrev pub answers : Access → Value → ℕ → Bool
answers m v old = not m.gives_word || is_number v old

abbrev pub is_access : Tickets → Value → ℤ → Access → Value → Deed → Bool
is_access t b i m v (Accesses s j done old) = is_ticket t b s && (same_index i j && (is_same_change (change_by m.edit old) done && answers m v old))
is_access t b i m v _ = false

-- a word was read, and is another than this
abbrev pub is_miss : Tickets → Value → ℤ → ℕ → Deed → Bool
is_miss t b i w (Accesses s j done old) = is_ticket t b s && (same_index i j && (is_same_change Change.Keep done && not (old == w)))
is_miss t b i w _ = false

-- a sleep began at a word, which was this one
abbrev pub is_sleep_at : Tickets → Value → ℤ → ℕ → Option Sleep → Bool
is_sleep_at t b i w None = false
is_sleep_at t b i w (Some s) = is_ticket t b s.serial && (same_index i s.index && (s.word == w))

-- and ended so
abbrev pub is_end_of_sleep : Tickets → Value → ℤ → ℕ → WaitResult → Deed → Bool
is_end_of_sleep t b i w WaitResult.Woken (Wakes o) = is_sleep_at t b i w o
is_end_of_sleep t b i w WaitResult.TimedOut (TimesOut o) = is_sleep_at t b i w o
is_end_of_sleep t b i w _ _ = false

-- so many were to be taken at most, and the answer is how many were
abbrev pub is_notify : Tickets → Value → ℤ → ℕ → Value → Deed → Bool
is_notify t b i n v (Notifies s j m k) = is_ticket t b s && (same_index i j && ((m == n) && is_number v k))
is_notify t b i n v _ = false

-- the message carries the value, or the block of the buffer
abbrev pub carries : Tickets → Value → Body → Bool
carries t v (Plain u) = not (is_object v) && is_same v u
carries t v (Block b s) = has_ticket t v (λ r. r.block == b)

abbrev pub is_post : Tickets → ℕ → Value → Deed → Bool
is_post t a v (Posts r m) = (r == a) && carries t v m
is_post t a v _ = false

-- the two buffers are over one block, or not, as the answer says
abbrev pub compares : Tickets → Value → Value → Value → Bool
compares t v u answer = has_ticket t v (λ r. has_ticket t u (λ q. is_same answer (Boolean (r.block == q.block))))

-- Messages

-- a message of so many words gave this value: of a block a new buffer with the message's own ticket
abbrev pub gives : Tickets → Value → Body → ℕ → Option Tickets
gives t v (Plain u) w = some_if (not (is_object v) && is_same v u) t
gives t v (Block b s) w = add_ticket t v (row s b w)

abbrev pub receiving : Tickets → ℕ → Value → Deed → Option Tickets
receiving t s v (Takes u m w) = if u == s then option_and_then (λ b. gives t v b w) m else None
receiving t s v _ = None

abbrev pub spends_ticket_in : Option Body → Deed → Bool
spends_ticket_in (Some (Block b s)) (Spends q) = q == s
spends_ticket_in _ _ = false

-- a message with a ticket was taken, and its ticket spent
abbrev pub is_refusal : Deed → Deed → Bool
is_refusal (Takes u m w) d = spends_ticket_in m d
is_refusal _ d = false

abbrev pub is_pass : ℕ → Deed → Bool
is_pass s (Passes u) = u == s
is_pass s _ = false

-- Spending

-- the tickets of these objects, and those of others
abbrev pub within : List ℕ → Tickets → Tickets
within ids t = filter (λ p. is_in ids p.0) t

abbrev pub beyond : List ℕ → Tickets → Tickets
beyond ids t = filter (λ p. not (is_in ids p.0)) t

abbrev pub serials_of : Tickets → List ℕ
serials_of t = map (λ p. p.1.serial) t

-- the list without this serial, once; none where it is not there
abbrev pub strike : ℕ → List ℕ → Option (List ℕ)
strike s [] = None
strike s (n ∷ ns) = if n == s then Some ns else option_map (λ ms. n ∷ ms) (strike s ns)

abbrev pub ends : Bool → List Deed → Bool
ends false [] = true
ends true (Ends ∷ []) = true
ends _ _ = false

-- each of these serials is spent once, in any order, and then, where it is a closing, the agent ends
abbrev pub spends : Bool → List ℕ → List Deed → Bool
spends closing [] ds = ends closing ds
spends closing ns (Spends s ∷ ds) = option_map_or (λ ms. spends closing ms ds) (strike s ns) false
spends closing _ _ = false

-- What meets what is asked

abbrev pub no_more : List Deed → Bool
no_more [] = true
no_more (d ∷ ds) = false

abbrev pub sole : List Deed → Option Deed
sole (d ∷ []) = Some d
sole _ = None

abbrev pub pair : List Deed → Option (Deed × Deed)
pair (d ∷ c ∷ []) = Some (d, c)
pair _ = None

-- there is one deed, and it passes the test
abbrev pub is_one : (Deed → Bool) → List Deed → Bool
is_one test ds = option_map_or test (sole ds) false

-- the agent's tickets after these deeds; none where they are not what it asked
abbrev pub after : Tickets → Asking → List Deed → Option Tickets
after t nothing ds = some_if (no_more ds) t
after t (to_open n v) ds = option_and_then (opening t n v) (sole ds)
after t (to_measure b v) ds = some_if (no_more ds && has_ticket t b (λ r. is_number v r.words)) t
after t (to_compare b c v) ds = some_if (no_more ds && compares t b c v) t
after t (to_access b i m v) ds = some_if (is_one (is_access t b i m v) ds) t
after t (to_miss b i w) ds = some_if (is_one (is_miss t b i w) ds) t
after t (to_sleep b i w r) ds = some_if (is_one (is_end_of_sleep t b i w r) ds) t
after t (to_notify b i n v) ds = some_if (is_one (is_notify t b i n v) ds) t
after t (to_post a v) ds = some_if (is_one (is_post t a v) ds) t
after t (to_receive s v) ds = option_and_then (receiving t s v) (sole ds)
after t to_refuse ds = some_if (option_map_or (λ p. is_refusal p.0 p.1) (pair ds) false) t
after t (to_pass s) ds = some_if (is_one (is_pass s) ds) t
after t (to_empty ids) ds = some_if (spends false (serials_of (within ids t)) ds) (beyond ids t)
after t to_close ds = some_if (spends true (serials_of t) ds) []

-- What has come to an agent

-- what has come to an agent from the ledger, each list the oldest first
pub record Came : Type 0 where
  -- the tickets that it has
  pub tickets : Tickets
  -- every ticket that ever came, the spent ones too
  pub ever : Tickets
  -- the sender of each message that found no room
  pub refused : List ℕ

abbrev pub nothing_came : Came
nothing_came = record { tickets = []; ever = []; refused = [] }

-- a ticket under the object that the value is
abbrev pub ticket_under : Value → Row → Tickets
ticket_under v r = option_map_or (λ o. (o, r) ∷ []) (object_of v) []

abbrev pub opened_ticket : Value → Deed → Tickets
opened_ticket v (Opens b w s) = ticket_under v (row s b w)
opened_ticket v _ = []

abbrev pub taken_ticket : Value → Deed → Tickets
taken_ticket v (Takes u (Some (Block b s)) w) = ticket_under v (row s b w)
taken_ticket v _ = []

-- the ticket that comes with deeds that meet what is asked: that of a new block, or that in a message
abbrev pub ticket_in : Asking → List Deed → Tickets
ticket_in (to_open n v) ds = option_map_or (opened_ticket v) (sole ds) []
ticket_in (to_receive s v) ds = option_map_or (taken_ticket v) (sole ds) []
ticket_in _ ds = []

abbrev pub sender_of : Deed → List ℕ
sender_of (Takes u m w) = u ∷ []
sender_of _ = []

-- of whom the message is that found no room
abbrev pub refused_in : Asking → List Deed → List ℕ
refused_in to_refuse ds = option_map_or (λ p. sender_of p.0) (pair ds) []
refused_in _ ds = []

-- what has come after these deeds; none where they are not what the agent asked
abbrev pub came_after : Came → Asking → List Deed → Option Came
came_after c w ds =
    option_map (λ t. record { tickets = t; ever = c.ever ++ ticket_in w ds; refused = c.refused ++ refused_in w ds }) (after c.tickets w ds)
