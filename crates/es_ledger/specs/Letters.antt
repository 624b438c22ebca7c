-- To believe: what a message carries, as its receiver gets it.
use Rattle.std.specs.Prelude.{◌≡◌, ◌+◌, Bool, false, None, count_by, if◌then◌else◌}
use Rattle.std.specs.List.{Contains}
use Rattle.es_value.specs.Values.{identity}
use Rattle.es_event.specs.declared.ledger_event.Body.{Body}
use Rattle.es_event.specs.declared.ledger_event.Body.TheVariants.{Plain as PlainBody, Block as BlockBody}
use Rattle.es_event.specs.declared.row.Row.{Row}
use Rattle.es_event.specs.Rows.{row}
use Rattle.es_event.specs.Ledger.{Ledger, size}
use Rattle.es_ticket.specs.Stakes.{StakeView, has_serial}
use Rattle.es_ledger.specs.declared.message.Letter.{Letter}
use Rattle.es_ledger.specs.declared.message.Letter.TheVariants.{Plain, Block}

-- what the history says of a letter of the run L
abbrev pub body_of : {L : Type 0} → Letter L → Body
body_of (Plain v) = PlainBody v
body_of (Block ticket) = BlockBody ticket.block ticket.serial

-- the second stake has one ticket more than the first, and no other of its serial was there
pub record Gained (ticket : Row) (before after : StakeView) : Type 0 where
  pub agent : after.agent ≡ before.agent
  pub here : Contains after.rows ticket
  pub fresh : has_serial ticket.serial before.rows ≡ false
  pub counts : (p : Row → Bool) → count_by p after.rows ≡ count_by p before.rows + (if p ticket then 1 else 0)

-- a value has no identity, and changes the receiver's stake in nothing; a ticket comes to it, and its words are those of its
-- block in the history l
abbrev pub Received : {L : Type 0} → Ledger → Letter L → StakeView → StakeView → Type 0
Received l (Plain v) before after = (identity v ≡ None) × (after ≡ before)
Received l (Block ticket) before after = (ticket ≡ row ticket.serial ticket.block (size l ticket.block)) × Gained ticket before after
