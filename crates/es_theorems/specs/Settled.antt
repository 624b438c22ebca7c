-- Internal: what an agent's next command does in the ledger, what it hears, and which ticket comes, by what the ledger and its tickets say.
use Rattle.std.specs.Prelude.{ℕ, ℤ, ◌+◌, List, [], ◌∷◌, Option, Some, None, unsigned_abs, if◌then◌else◌}
use Rattle.std.specs.Option.{option_map_or}
use Rattle.es_value.specs.declared.value.Value.{Value}
use Rattle.es_value.specs.declared.value.Value.TheVariants.{Object}
use Rattle.es_event.specs.declared.access.Access.{Access}
use Rattle.es_event.specs.declared.command.Command.{Command}
use Rattle.es_event.specs.declared.command.Command.TheVariants.{SharedArrayBuffer, Atomic, Post}
use Rattle.es_event.specs.declared.ledger_event.Body.{Body}
use Rattle.es_event.specs.declared.ledger_event.Body.TheVariants.{Plain, Block}
use Rattle.es_event.specs.declared.row.Row.{Row}
use Rattle.es_event.specs.Access.{change_by}
use Rattle.es_event.specs.Commands.{first}
use Rattle.es_event.specs.Ledger.{Ledger, opened, serials, holder_of, word}
use Rattle.es_event.specs.Numbers.{access_of, index_of}
use Rattle.es_event.specs.Rows.{row}
use Rattle.es_event.specs.Heard.{Heard, silence, a_word}
use Rattle.es_event.specs.Sharing.{row_of}
use Rattle.es_match.specs.Deeds.{Deed, Opens, Posts, Accesses}
use Rattle.es_match.specs.Meets.{Tickets}

-- the serial of a buffer's ticket, and the block that it is over
abbrev pub serial_at : Tickets → Value → ℕ
serial_at t v = option_map_or (λ r. r.serial) (row_of t v) 0

abbrev pub block_at : Tickets → Value → ℕ
block_at t v = option_map_or (λ r. r.block) (row_of t v) 0

-- the word that is reached through the ticket of this serial
abbrev pub word_at : Ledger → ℕ → ℕ → ℕ
word_at l s i = option_map_or (λ p. word l p.1.block i) (holder_of l s) 0

-- the message that carries the value
abbrev pub body_for : Ledger → Tickets → Value → Body
body_for l t (Object o) = Block (block_at t (Object o)) (serials l + 1)
body_for l t v = Plain v

-- an access to the word at an index of the first value's block, with what becomes of the word that is there
abbrev pub access_by : Ledger → Tickets → List Value → ℤ → Access → List Deed
access_by l t vs i m = Accesses (serial_at t (first vs)) (unsigned_abs i) (change_by m.edit (word_at l (serial_at t (first vs)) (unsigned_abs i))) (word_at l (serial_at t (first vs)) (unsigned_abs i)) ∷ []

-- what a command with these values does
abbrev pub deeds_of : Ledger → Tickets → Command → List Value → List Deed
deeds_of l t (SharedArrayBuffer to n) vs = Opens (opened l + 1) n (serials l + 1) ∷ []
deeds_of l t (Atomic a) vs = access_by l t vs (index_of a vs) (access_of a vs)
deeds_of l t (Post a x) vs = Posts a (body_for l t (first vs)) ∷ []
deeds_of l t _ vs = []

-- what it hears
abbrev pub heard_from : Ledger → Tickets → Command → List Value → Heard
heard_from l t (Atomic a) vs = if (access_of a vs).gives_word then a_word (word_at l (serial_at t (first vs)) (unsigned_abs (index_of a vs))) else silence
heard_from l t _ vs = silence

-- the ticket that comes with it
abbrev pub row_from : Ledger → Command → Option Row
row_from l (SharedArrayBuffer to n) = Some (row (serials l + 1) (opened l + 1) n)
row_from l _ = None

-- the ticket that comes, under the next identity
abbrev pub came_row : ℕ → Option Row → Tickets
came_row m None = []
came_row m (Some r) = (m + 1, r) ∷ []
