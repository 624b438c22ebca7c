-- Two agents: a block goes from one to the other, a message is drained, and one that waits is passed; and what no ledger allows.
use Rattle.std.proofs.Common.{◌≡◌, arith, true, false, refl, [], ◌∷◌, Some, None, rules}
use Rattle.std.specs.Prelude.{pos}
use Rattle.es_value.specs.declared.value.Value.TheVariants.{Number}
use Rattle.es_event.specs.declared.access.Change.TheVariants.{Keep as loads, Write as stores}
use Rattle.es_event.specs.declared.ledger_event.Body.TheVariants.{Plain, Block}
use Rattle.es_event.specs.declared.ledger_event.LedgerEvent.TheVariants.{Opened, Posted, Taken, Spent, Accessed, Drained, Acted}
use Rattle.es_event.specs.declared.ledger_event.Act.TheVariants.{Waiting, Passed, Ended}
use Rattle.es_event.specs.Rows.{row, held, in_port}
use Rattle.es_event.specs.Ledger.{Ledger, table, count, is_released, port_of, holder_of, waits}
use Rattle.es_event.specs.LegalLedger.{MayCome, ComesNext, LegalLedger, owed}

-- A block is posted; the sender keeps its own ticket, and spends it; the receiver reads what was stored

abbrev pub stored : Ledger
stored = Accessed 1 3 (stores 7) 0 ∷ Opened 1 4 1 0 ∷ Acted 1 (Waiting 0) ∷ []

abbrev pub posted : Ledger
posted = Posted 0 1 (Block 1 2) ∷ stored

abbrev pub sender_ended : Ledger
sender_ended = Acted 0 Ended ∷ Spent 1 ∷ posted

abbrev pub taken : Ledger
taken = Taken 0 1 ∷ sender_ended

abbrev pub all_ended : Ledger
all_ended = Acted 1 Ended ∷ Spent 2 ∷ Accessed 2 3 loads 7 ∷ taken

pub legal_taken : LegalLedger 2 all_ended
legal_taken = search rules

pub two_tickets : count posted 1 ≡ 2
two_tickets = refl

pub sender_keeps : held 0 (table posted) ≡ row 1 1 4 ∷ []
sender_keeps = refl

pub port_holds : in_port 0 1 (table posted) ≡ row 2 1 4 ∷ []
port_holds = refl

pub not_released_in_a_port : is_released sender_ended 1 ≡ false
not_released_in_a_port = refl

pub receiver_has_it : holder_of taken 2 ≡ Some (1, row 2 1 4)
receiver_has_it = refl

pub waits_no_more : waits taken 1 ≡ None
waits_no_more = refl

pub released_at_last : is_released all_ended 1 ≡ true
released_at_last = refl

-- A message that nobody takes is drained, and its ticket is spent

abbrev pub both_ended : Ledger
both_ended = Acted 1 Ended ∷ Acted 0 Ended ∷ Spent 1 ∷ Posted 0 1 (Block 1 2) ∷ Opened 1 4 1 0 ∷ []

abbrev pub drained : Ledger
drained = Drained 0 1 ∷ both_ended

pub legal_drained : LegalLedger 2 (Spent 2 ∷ drained)
legal_drained = search rules

pub released_by_draining : is_released (Spent 2 ∷ drained) 1 ≡ true
released_by_draining = refl

-- Both wait, and the lower one is passed; its message then serves the other

abbrev pub waiting : Ledger
waiting = Acted 1 (Waiting 0) ∷ Acted 0 (Waiting 1) ∷ []

abbrev pub passed : Ledger
passed = Acted 0 (Passed 1) ∷ waiting

abbrev pub served : Ledger
served = Taken 0 1 ∷ Posted 0 1 (Plain (Number (pos 1))) ∷ passed

pub legal_passed : LegalLedger 2 (Acted 1 Ended ∷ Acted 0 Ended ∷ served)
legal_passed = search rules

-- Two messages come in the order in which they were posted

abbrev pub two_posted : Ledger
two_posted = Posted 0 1 (Plain (Number (pos 2))) ∷ Posted 0 1 (Plain (Number (pos 1))) ∷ []

pub in_order : port_of two_posted 0 1 ≡ Plain (Number (pos 1)) ∷ Plain (Number (pos 2)) ∷ []
in_order = refl

pub second_is_left : port_of (Taken 0 1 ∷ two_posted) 0 1 ≡ Plain (Number (pos 2)) ∷ []
second_is_left = refl

-- Wrong neighbours

-- the serial of a message that stands in its port is spent
spends_in_a_port : MayCome 2 posted (Spent 2) → ⊥
spends_in_a_port m = cc

-- a block is posted by an agent that holds no ticket of it
posts_without_a_ticket : MayCome 2 sender_ended (Posted 0 1 (Block 1 3)) → ⊥
posts_without_a_ticket m = cc

-- or with the sender's own ticket
posts_its_own : MayCome 2 stored (Posted 0 1 (Block 1 1)) → ⊥
posts_its_own m = cc

-- to itself
posts_to_itself : MayCome 2 stored (Posted 0 0 (Plain (Number (pos 1)))) → ⊥
posts_to_itself m = m.2 refl

-- a word is written through a ticket that lies in a port
writes_through_a_message : MayCome 2 posted (Accessed 2 0 (stores 1) 0) → ⊥
writes_through_a_message m = m

-- a message is taken from an empty port, or twice
takes_nothing : MayCome 2 stored (Taken 0 1) → ⊥
takes_nothing m = cc

takes_twice : MayCome 2 taken (Taken 0 1) → ⊥
takes_twice m = cc

-- an agent waits at a full port, twice, or after its end
waits_at_a_message : MayCome 2 two_posted (Acted 1 (Waiting 0)) → ⊥
waits_at_a_message m = cc

waits_twice : MayCome 2 waiting (Acted 0 (Waiting 1)) → ⊥
waits_twice m = cc

waits_for_itself : MayCome 2 [] (Acted 0 (Waiting 0)) → ⊥
waits_for_itself m = m.2 refl

waits_for_nobody : MayCome 2 [] (Acted 0 (Waiting 2)) → ⊥
waits_for_nobody m = absurd (omega (arith, m.1))

waits_after_its_end : MayCome 2 both_ended (Acted 0 (Waiting 1)) → ⊥
waits_after_its_end m = cc

-- an agent is passed that did not wait, while another can go on, or before a lower one
passes_who_did_not_wait : MayCome 2 (Acted 0 Ended ∷ []) (Acted 1 (Passed 0)) → ⊥
passes_who_did_not_wait m = cc

passes_too_early : MayCome 2 (Acted 0 (Waiting 1) ∷ []) (Acted 0 (Passed 1)) → ⊥
passes_too_early m = cc

passes_the_higher : MayCome 2 waiting (Acted 1 (Passed 0)) → ⊥
passes_the_higher m = cc

-- twice
passes_twice : MayCome 2 passed (Acted 0 (Passed 1)) → ⊥
passes_twice m = cc

-- but one whose sender ended is passed at once
pub passes_after_an_end : MayCome 2 (Acted 1 (Waiting 0) ∷ Acted 0 Ended ∷ []) (Acted 1 (Passed 0))
passes_after_an_end = (refl, refl)

-- a port is drained before all have ended, or when it is empty
drains_too_early : MayCome 2 sender_ended (Drained 0 1) → ⊥
drains_too_early m = cc

drains_nothing : MayCome 2 both_ended (Drained 1 0) → ⊥
drains_nothing m = cc

drains_twice : MayCome 2 (Spent 2 ∷ drained) (Drained 0 1) → ⊥
drains_twice m = cc

-- the drained message's ticket is left, or another one is spent
leaves_the_drained : LegalLedger 2 drained → ⊥
leaves_the_drained l = cc

spends_another : ComesNext 2 drained (Spent 1) (owed drained) → ⊥
spends_another e = cc
