-- To believe: the buffers of an agent (SharedArrayBuffer Objects), and how many blocks it opened and messages it posted.
use Rattle.std.specs.Prelude.{ℕ, ℤ, pos, negsuc, ◌≡◌, ◌≤◌, Bool, false, ◌==◌, List, [], ◌∷◌, Option, Some, None, nat_lt, if◌then◌else◌}
use Rattle.std.specs.Option.{option_map_or, option_and_then}
use Rattle.es_value.specs.declared.value.Value.{Value}
use Rattle.es_event.specs.declared.row.Row.{Row}
use Rattle.es_event.specs.declared.event.Event.{Event}
use Rattle.es_event.specs.declared.event.Event.TheVariants.{JobBegun, CleanupBegun, Received, Did, Refused, Emptied, Taken, JobEnded, Skipped, Closed}
use Rattle.es_event.specs.Commands.{opens_words, posts}
use Rattle.es_event.specs.History.{History, total}
use Rattle.es_event.specs.Identities.{object_of, made}

-- Buffers

-- each buffer object of an agent, with what its ticket names: the block that it is over, and how many words that has; the
-- newest first
abbrev pub Buffers : Type 0
Buffers = List (ℕ × Row)

abbrev pub row_at : Buffers → ℕ → Option Row
row_at [] o = None
row_at (b ∷ bs) o = if b.0 == o then Some b.1 else row_at bs o

abbrev pub row_of : Buffers → Value → Option Row
row_of over v = option_and_then (row_at over) (object_of v)

-- the number of words of the buffer's block
abbrev pub words_of : Buffers → Value → ℕ
words_of over v = option_map_or (λ r. r.words) (row_of over v) 0

abbrev pub block_of : Buffers → Value → ℕ
block_of over v = option_map_or (λ r. r.block) (row_of over v) 0

-- the block has a word at this index
abbrev pub is_index : ℤ → ℕ → Bool
is_index (pos i) words = nat_lt i words
is_index (negsuc i) words = false

-- of the objects that were made so far the two tables say the same
abbrev pub AgreeSoFar : History → Buffers → Buffers → Type 0
AgreeSoFar h over other = (o : ℕ) → o ≤ made h → row_at other o ≡ row_at over o

-- Blocks and messages

-- how many blocks the event opens
abbrev pub opens_at : Event → ℕ
opens_at (JobBegun j) = 0
opens_at (CleanupBegun q) = 0
opens_at (Received t v) = 0
opens_at (Did (c, vs, r)) = option_map_or (λ n. 1) (opens_words c) 0
opens_at (Refused code) = 0
opens_at (Emptied ids) = 0
opens_at (Taken n held) = 0
opens_at JobEnded = 0
opens_at (Skipped j t) = 0
opens_at Closed = 0

-- how many blocks the agent opened
abbrev pub blocks_opened : History → ℕ
blocks_opened h = total (λ earlier e. opens_at e) h

-- how many messages the event posts
abbrev pub posts_at : Event → ℕ
posts_at (JobBegun j) = 0
posts_at (CleanupBegun q) = 0
posts_at (Received t v) = 0
posts_at (Did (c, vs, r)) = if posts c then 1 else 0
posts_at (Refused code) = 0
posts_at (Emptied ids) = 0
posts_at (Taken n held) = 0
posts_at JobEnded = 0
posts_at (Skipped j t) = 0
posts_at Closed = 0

-- how many messages the agent posted
abbrev pub messages_posted : History → ℕ
messages_posted h = total (λ earlier e. posts_at e) h
