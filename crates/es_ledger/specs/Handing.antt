-- Internal: a letter is handed over to its receiver.
use Rattle.std.specs.Prelude.{◌≡◌, List}
use Rattle.std.specs.List.{Contains}
use Rattle.es_event.specs.declared.row.Row.{Row}
use Rattle.es_ticket.specs.Stakes.{StakeView}
use Rattle.es_ledger.specs.declared.message.Letter.{Letter}
use Rattle.es_ledger.specs.declared.message.Letter.TheVariants.{Plain, Block}
use Rattle.es_ledger.specs.Letters.{Gained}

-- the ticket in the letter, if there is one, is among these rows
abbrev pub LiesIn : {L : Type 0} → List Row → Letter L → Type 0
LiesIn rs (Plain v) = Unit {0}
LiesIn rs (Block ticket) = Contains rs ticket

abbrev pub Handed : {L : Type 0} → Letter L → StakeView → StakeView → Type 0
Handed (Plain v) before after = after ≡ before
Handed (Block ticket) before after = Gained ticket before after
