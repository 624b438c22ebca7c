-- Internal: an agent by what it is whatever the order of turns: blocks are named by who opened them and as which of its own, tickets have no
-- serials, and messages are told by who sent them and who took them; beside the agents the words of their blocks, and what each agent knows of
-- accesses.
use Rattle.std.specs.Prelude.{ℕ, zero, suc, ◌≡◌, ◌+◌, ◌<◌, ◌==◌, ◌&&◌, ◌||◌, ◌⊎◌, Bool, true, false, List, [], ◌∷◌, ◌++◌, length, map, Option, Some, None, unwrap_or, drop, slice_get, slice_set, unsigned_abs, if◌then◌else◌}
use Rattle.std.specs.List.{list_any}
use Rattle.std.specs.Option.{option_map_or}
use Rattle.es_value.specs.declared.value.Value.{Value}
use Rattle.es_value.specs.declared.value.Value.TheVariants.{Object}
use Rattle.es_event.specs.declared.access.Access.{Access}
use Rattle.es_event.specs.declared.access.Change.{Change}
use Rattle.es_event.specs.declared.command.Command.{Command}
use Rattle.es_event.specs.declared.command.Command.TheVariants.{SharedArrayBuffer, Atomic, Post}
use Rattle.es_event.specs.declared.event.Event.{Event}
use Rattle.es_event.specs.declared.event.Event.TheVariants.{JobBegun, CleanupBegun, Received, Did, Refused, Emptied, Taken, JobEnded, Skipped, Closed}
use Rattle.es_event.specs.declared.event.Refusal.TheVariants.{TooManyValues}
use Rattle.es_event.specs.declared.plan.AgentPlan.{AgentPlan}
use Rattle.es_event.specs.declared.row.Row.{Row}
use Rattle.es_event.specs.Access.{written, change_by}
use Rattle.es_event.specs.Commands.{first}
use Rattle.es_event.specs.History.{History}
use Rattle.es_event.specs.Identities.{made}
use Rattle.es_event.specs.Numbers.{access_of, index_of}
use Rattle.es_event.specs.Order.{Due, receive, due, phase}
use Rattle.es_event.specs.Rows.{row}
use Rattle.es_event.specs.Heard.{Heard, a_word, silence}
use Rattle.es_event.specs.Runs.{ComesNext, IsRunOver, heard}
use Rattle.es_event.specs.Sharing.{Buffers, block_of, blocks_opened, row_of}
use Rattle.es_agent.specs.Tickets.{is_ended}
use Rattle.es_laws.specs.Races.{Mark, first_of, is_mark}

-- a message: a value, or a block with its number of words
pub data Letter : Type 0 where
  plain : Value → Letter
  over_block : Row → Letter

-- its plan, buffers and events; what it posted, the oldest first, and to whom; and of whom it took a message, each time
pub record Local : Type 0 where
  pub plan : AgentPlan
  pub over : Buffers
  pub history : History
  pub sent : List (ℕ × Letter)
  pub got : List ℕ

abbrev pub Locals : Type 0
Locals = List Local

-- Messages

abbrev pub addressed : ℕ → List (ℕ × Letter) → List Letter
addressed r [] = []
addressed r (m ∷ ms) = if m.0 == r then m.1 ∷ addressed r ms else addressed r ms

abbrev pub times : ℕ → List ℕ → ℕ
times s [] = 0
times s (t ∷ ts) = (if t == s then 1 else 0) + times s ts

-- what s sent to r
abbrev pub sent_by : Option Local → ℕ → List Letter
sent_by None r = []
sent_by (Some a) r = addressed r a.sent

-- of these, those that agent a, which is r, has not taken
abbrev pub letters : Locals → ℕ → ℕ → Local → List Letter
letters all s r a = drop (times s a.got) (sent_by (slice_get all s) r)

abbrev pub is_done : Local → Bool
is_done a = is_ended (phase a.history)

abbrev pub is_done_at : Locals → ℕ → Bool
is_done_at all s = option_map_or is_done (slice_get all s) false

-- agent s, if it is there, has not ended, and no message of it is there for agent a, which is r
abbrev pub LetsWait : Locals → ℕ → ℕ → Local → Type 0
LetsWait all s r a = (letters all s r a ≡ []) × (is_done_at all s ≡ false)

-- what is due is a message of s
abbrev pub Awaits : Local → ℕ → Type 0
Awaits a s = (n : ℕ) × (due a.plan a.history ≡ receive n s)

-- an agent has ended, or waits in vain
abbrev pub Rests : Locals → ℕ → Local → Type 0
Rests all i a = (is_done a ≡ true) ⊎ ((s : ℕ) × Awaits a s × LetsWait all s i a)

-- of all agents none can go on, and those below i have ended
pub record IsLowest (all : Locals) (i : ℕ) : Type 0 where
  pub rest : (j : ℕ) (a : Local) → slice_get all j ≡ Some a → Rests all j a
  pub lower : (j : ℕ) (a : Local) → slice_get all j ≡ Some a → j < i → is_done a ≡ true

-- agent i may skip a job that waits for s
abbrev pub MaySkip : Locals → ℕ → ℕ → Type 0
MaySkip all i s = (is_done_at all s ≡ true) ⊎ IsLowest all i

-- Blocks

-- so many times n
abbrev pub by_number : ℕ → ℕ → ℕ
by_number zero n = 0
by_number (suc k) n = n + by_number k n

-- the block that agent i of n opens, after so many; 0 is no block's name
abbrev pub named : ℕ → ℕ → ℕ → ℕ
named n i k = suc (i + by_number k n)

-- what comes with the agent's next event
abbrev pub opened_row : ℕ → ℕ → History → Event → Option Row
opened_row n i h (JobBegun j) = None
opened_row n i h (CleanupBegun q) = None
opened_row n i h (Received t v) = None
opened_row n i h (Did (SharedArrayBuffer to w, vs, r)) = Some (row 0 (named n i (blocks_opened h)) w)
opened_row n i h (Did (c, vs, r)) = None
opened_row n i h (Refused code) = None
opened_row n i h (Emptied ids) = None
opened_row n i h (Taken m held) = None
opened_row n i h JobEnded = None
opened_row n i h (Skipped j t) = None
opened_row n i h Closed = None

abbrev pub with_new : Option Row → History → Buffers → Buffers
with_new r h over = option_map_or (λ r. (made h + 1, r) ∷ over) r over

abbrev pub letter : Buffers → Value → Letter
letter over v = option_map_or over_block (row_of over v) (plain v)

abbrev pub posted_by : Buffers → Event → List (ℕ × Letter)
posted_by over (JobBegun j) = []
posted_by over (CleanupBegun q) = []
posted_by over (Received t v) = []
posted_by over (Did (Post a y, vs, r)) = (a, letter over (first vs)) ∷ []
posted_by over (Did (c, vs, r)) = []
posted_by over (Refused code) = []
posted_by over (Emptied ids) = []
posted_by over (Taken m held) = []
posted_by over JobEnded = []
posted_by over (Skipped j t) = []
posted_by over Closed = []

-- Words

-- an access to a word: of which block, by its own name, at which index, and what becomes of the word
pub record Touch : Type 0 where
  pub block : ℕ
  pub index : ℕ
  pub access : Access

-- the one that a command with these values is
abbrev pub touch_with : Buffers → Command → List Value → Option Touch
touch_with over (Atomic c) vs = Some (record { block = block_of over (first vs); index = unsigned_abs (index_of c vs); access = access_of c vs })
touch_with over c vs = None

-- the one that the event is
abbrev pub touch_by : Buffers → Event → Option Touch
touch_by over (JobBegun j) = None
touch_by over (CleanupBegun q) = None
touch_by over (Received t v) = None
touch_by over (Did (c, vs, r)) = touch_with over c vs
touch_by over (Refused code) = None
touch_by over (Emptied ids) = None
touch_by over (Taken m held) = None
touch_by over JobEnded = None
touch_by over (Skipped j t) = None
touch_by over Closed = None

-- the word of a block, by its own name, at an index
abbrev pub Words : Type 0
Words = ℕ → ℕ → ℕ

abbrev pub hears_at : Words → Option Touch → Heard
hears_at m None = silence
hears_at m (Some t) = if t.access.gives_word then a_word (m t.block t.index) else silence

abbrev pub is_over : ℕ → ℕ → Touch → Bool
is_over b x t = (t.block == b) && (t.index == x)

-- what becomes of the word
abbrev pub change_at : Words → Touch → Change
change_at m t = change_by t.access.edit (m t.block t.index)

-- what a change leaves of a word
abbrev pub left_over : Change → ℕ → ℕ
left_over c old = unwrap_or (written c old) old

abbrev pub words_after : Words → Option Touch → Words
words_after m None b x = m b x
words_after m (Some t) b x = if is_over b x t then left_over (change_at m t) (m t.block t.index) else m b x

-- What agents know

abbrev pub is_known : Mark → List Mark → Bool
is_known x marks = list_any (is_mark x) marks

-- an access that was made: where, whether it writes, and of which accesses its agent knew
pub record Touched : Type 0 where
  pub block : ℕ
  pub index : ℕ
  pub writes : Bool
  pub knew : List Mark

abbrev pub changes : Change → Bool
changes Change.Keep = false
changes (Change.Write w) = true
changes (Change.Add n) = true

abbrev pub touched_by : List Mark → Words → Touch → Touched
touched_by knew m t = record { block = t.block; index = t.index; writes = changes (change_at m t); knew = knew }

-- two accesses to one word, one of them a write
abbrev pub clash : Touched → Touched → Bool
clash x y = ((x.block == y.block) && (x.index == y.index)) && (x.writes || y.writes)

-- of which accesses an agent knows; of each message to an agent, the oldest first, those of which it knew when it posted it; and its accesses,
-- the oldest first
pub record Lore : Type 0 where
  pub knows : List Mark
  pub told : ℕ → List (List Mark)
  pub touched : List Touched

-- what a message of s tells agent a, which is i
abbrev pub learned : (ℕ → Lore) → ℕ → Local → List ℕ → List Mark
learned lore i a [] = []
learned lore i a (s ∷ rest) = first_of (drop (times s a.got) ((lore s).told i))

abbrev pub own_mark : ℕ → List Touched → Option Touch → List Mark
own_mark i earlier None = []
own_mark i earlier (Some t) = (i, length earlier) ∷ []

abbrev pub touched_now : List Mark → Words → Option Touch → List Touched
touched_now knew m None = []
touched_now knew m (Some t) = touched_by knew m t ∷ []

-- what agent i knows after it was told of these accesses, made this one where these were the words, and posted these messages
abbrev pub lore_with : Lore → ℕ → List Mark → Words → Option Touch → List (ℕ × Letter) → Lore
lore_with old i marks m touch sent = record {
  knows = marks ++ (own_mark i old.touched touch ++ old.knows);
  told = λ r. old.told r ++ map (λ x. old.knows) (addressed r sent);
  touched = old.touched ++ touched_now old.knows m touch;
}

-- what it knows after an event
abbrev pub new_lore : Lore → ℕ → List Mark → Words → Local → Event → Lore
new_lore old i marks m a e = lore_with old i marks m (touch_by a.over e) (posted_by a.over e)

abbrev pub lore_after : (ℕ → Lore) → ℕ → Lore → ℕ → Lore
lore_after lore i new j = if i == j then new else lore j

-- Steps

-- of a message of s that is there, or of none, agent i hears this, and this ticket comes
abbrev pub Hears : Locals → ℕ → ℕ → Local → List Letter → Event → Option Row → List ℕ → Type 0
Hears all i s a [] e r got = ((j : ℕ) × (e ≡ Skipped j s)) × (r ≡ None) × (got ≡ []) × MaySkip all i s
Hears all i s a (plain v ∷ ms) e r got = (e ≡ Received s v) × (r ≡ None) × (got ≡ s ∷ [])
Hears all i s a (over_block q ∷ ms) e r got =
    (((e ≡ Received s (Object (made a.history + 1))) × (r ≡ Some q)) ⊎ ((e ≡ Refused TooManyValues) × (r ≡ None))) × (got ≡ s ∷ [])

-- where nothing is due from others, only a block of its own comes, and only a word is heard
abbrev pub Finds : ℕ → Locals → Words → ℕ → Local → Due → Event → Option Row → List ℕ → Type 0
Finds n all m i a (receive j s) e r got = Hears all i s a (letters all s i a) e r got
Finds n all m i a d e r got = (r ≡ opened_row n i a.history e) × (got ≡ []) × (heard e ≡ hears_at m (touch_by a.over e))

abbrev pub after_event : Local → Event → Option Row → List ℕ → Local
after_event a e r got = record { plan = a.plan; over = with_new r a.history a.over; history = e ∷ a.history; sent = a.sent ++ posted_by a.over e; got = a.got ++ got }

-- all agents, what they know, and the words of all blocks
pub record World : Type 0 where
  pub locals : Locals
  pub lore : ℕ → Lore
  pub words : Words

abbrev pub world_after : World → ℕ → Local → Event → Option Row → List ℕ → World
world_after w i a e r got = record {
  locals = slice_set w.locals i (after_event a e r got);
  lore = lore_after w.lore i (new_lore (w.lore i) i (learned w.lore i a got) w.words a e);
  words = words_after w.words (touch_by a.over e);
}

-- agent i of n goes on by one event
pub record Goes (n : ℕ) (w : World) (i : ℕ) (new : World) : Type 0 where
  pub before : Local
  pub at : slice_get w.locals i ≡ Some before
  pub run : IsRunOver before.over before.plan before.history
  pub event : Event
  pub row : Option Row
  pub got : List ℕ
  pub next : ComesNext (with_new row before.history before.over) before.plan before.history event
  pub finds : Finds n w.locals w.words i before (due before.plan before.history) event row got
  pub is : new ≡ world_after w i before event row got

-- so many steps of any agents, one after the other
abbrev pub GoFar : ℕ → ℕ → World → World → Type 0
GoFar n zero w end = end ≡ w
GoFar n (suc k) w end = (i : ℕ) × (mid : World) × Goes n w i mid × GoFar n k mid end

-- all have ended
abbrev pub AreDone : World → Type 0
AreDone w = (i : ℕ) (a : Local) → slice_get w.locals i ≡ Some a → is_done a ≡ true

-- of two accesses of two agents to one word, one of them a write, one agent knew of the other
abbrev pub IsFree : World → Type 0
IsFree w =
    (i j p q : ℕ) (x y : Touched) → (i ≡ j → ⊥) → slice_get (w.lore i).touched p ≡ Some x → slice_get (w.lore j).touched q ≡ Some y → clash x y ≡ true → (is_known (i, p) y.knew || is_known (j, q) x.knew) ≡ true

-- nobody knows of an access that was not made; and of each message there is what its sender knew
pub record IsSane (w : World) : Type 0 where
  pub knows : (i : ℕ) (x : Mark) → is_known x (w.lore i).knows ≡ true → x.1 < length (w.lore x.0).touched
  pub told : (i r : ℕ) (x : Mark) → list_any (is_known x) ((w.lore i).told r) ≡ true → x.1 < length (w.lore x.0).touched
  pub parallel : (i r : ℕ) (a : Local) → slice_get w.locals i ≡ Some a → length ((w.lore i).told r) ≡ length (addressed r a.sent)
