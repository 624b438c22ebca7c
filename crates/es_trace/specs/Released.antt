-- To believe: which blocks events of the ledger release.
use Rattle.std.specs.Prelude.{ℕ, ◌≡◌, ◌==◌, List, [], ◌∷◌, Option, Some, None, nat_eq, if◌then◌else◌}
use Rattle.std.specs.HashMap.{get}
use Rattle.std.specs.List.{filter}
use Rattle.std.specs.Option.{option_and_then}
use Rattle.es_value.specs.Ids.{is_in}
use Rattle.es_event.specs.declared.ledger_event.Body.{Body}
use Rattle.es_event.specs.declared.ledger_event.Body.TheVariants.{Plain, Block}
use Rattle.es_event.specs.declared.ledger_event.LedgerEvent.{LedgerEvent}
use Rattle.es_event.specs.declared.ledger_event.LedgerEvent.TheVariants.{Opened, Posted, Taken, Spent, Accessed, Drained, Acted}
use Rattle.es_event.specs.Ledger.{Ledger, is_released}
use Rattle.es_trace.specs.declared.released.TicketBlocks.{TicketBlocks}

-- the ticket of a message, with its block
abbrev pub ticket_in : Body → Option (ℕ × ℕ)
ticket_in (Plain v) = None
ticket_in (Block b s) = Some (s, b)

-- the serial of the ticket that the event makes, with its block
abbrev pub ticket_made : LedgerEvent → Option (ℕ × ℕ)
ticket_made (Opened b w s a) = Some (s, b)
ticket_made (Posted a r m) = ticket_in m
ticket_made (Taken a r) = None
ticket_made (Spent s) = None
ticket_made (Accessed s i m old) = None
ticket_made (Acted a d) = None
ticket_made (Drained a r) = None

abbrev pub newest_block : Option (ℕ × ℕ) → ℕ → Option ℕ → Option ℕ
newest_block None s before = before
newest_block (Some t) s before = if t.0 == s then Some t.1 else before

-- the block of the ticket of this serial
abbrev pub block_of : Ledger → ℕ → Option ℕ
block_of [] s = None
block_of (e ∷ earlier) s = newest_block (ticket_made e) s (block_of earlier s)

-- the serial of the ticket that the event spends
abbrev pub spends : LedgerEvent → Option ℕ
spends (Opened b w s a) = None
spends (Posted a r m) = None
spends (Taken a r) = None
spends (Spent s) = Some s
spends (Accessed s i m old) = None
spends (Acted a d) = None
spends (Drained a r) = None

abbrev pub with_block : Option ℕ → List ℕ → List ℕ
with_block None bs = bs
with_block (Some b) bs = if is_in bs b then bs else b ∷ bs

-- the blocks of the tickets that these events spend, each once; the history is that after them
abbrev pub spent_blocks : Ledger → List LedgerEvent → List ℕ
spent_blocks l [] = []
spent_blocks l (e ∷ es) = with_block (option_and_then (block_of l) (spends e)) (spent_blocks l es)

-- those of which nobody holds a ticket after them
abbrev pub released_by : Ledger → List LedgerEvent → List ℕ
released_by l es = filter (is_released l) (spent_blocks l es)

-- what is kept of tickets says what the history says
abbrev pub KnowsBlocks : Ledger → TicketBlocks → Type 0
KnowsBlocks l t = (s : ℕ) → get nat_eq t.blocks s ≡ block_of l s
