-- Wrong neighbours of the histories of clusters: one thing is changed, and they are those of no cluster.
use Rattle.std.proofs.Common.{true, false, refl, List, [], ◌∷◌}
use Rattle.std.specs.Prelude.{pos, negsuc}
use Rattle.es_value.specs.declared.value.Value.TheVariants.{Boolean, Number, Object}
use Rattle.es_event.specs.declared.access.Change.TheVariants.{Keep as loads, Write as stores, Add as adds}
use Rattle.es_event.specs.declared.command.Command.TheVariants.{SharedArrayBuffer, Length, SameBlock, Post}
use Rattle.es_event.specs.declared.event.Answer.TheVariants.{Nothing, Gives}
use Rattle.es_event.specs.declared.event.Refusal.TheVariants.{TooManyValues, TooManyPosts}
use Rattle.es_event.specs.declared.event.Event.TheVariants.{JobBegun, Received, Did, Refused, Emptied, Skipped, Closed}
use Rattle.es_event.specs.declared.ledger_event.Body.TheVariants.{Plain, Block}
use Rattle.es_event.specs.declared.ledger_event.LedgerEvent.TheVariants.{Opened, Posted, Taken, Spent, Accessed, Drained, Acted}
use Rattle.es_event.specs.declared.ledger_event.Act.TheVariants.{Waiting, Passed, Ended}
use Rattle.es_event.specs.History.{History}
use Rattle.es_event.specs.Ledger.{Ledger}
use Rattle.es_event.proofs.Examples.{load, store, add}
use Rattle.es_match.specs.Cluster.{IsCluster}
use Rattle.es_match.proofs.Examples.{untold, impatient, after_drain}
use Rattle.es_match.proofs.ExampleCluster.{b, x, made, maker, got, worker, opened, posted, taken, idle, skipper, passed, poster, refuser, drained, sharer, received, collector, shared, later_refuser, before_later}

abbrev No : List History → Ledger → Type 0
No hs l = IsCluster hs l → ⊥

abbrev both : List History
both = maker ∷ worker ∷ []

-- What the worker does

-- a word that was not read
invented : No both (Acted 1 Ended ∷ Spent 2 ∷ Accessed 2 1 (adds 4294967295) 5 ∷ Accessed 2 1 loads 6 ∷ taken)
invented = untold both _ 1 refl

-- another index
elsewhere : No both (Acted 1 Ended ∷ Spent 2 ∷ Accessed 2 1 (adds 4294967295) 5 ∷ Accessed 2 2 loads 5 ∷ taken)
elsewhere = untold both _ 1 refl

-- through the ticket of nobody
unheld : No both (Acted 1 Ended ∷ Spent 2 ∷ Accessed 2 1 (adds 4294967295) 5 ∷ Accessed 1 1 loads 5 ∷ taken)
unheld = untold both _ 1 refl

-- another addend
other_addend : No both (Acted 1 Ended ∷ Spent 2 ∷ Accessed 2 1 (adds 4294967294) 5 ∷ Accessed 2 1 loads 5 ∷ taken)
other_addend = untold both _ 1 refl

-- another word before the sum
other_old : No both (Acted 1 Ended ∷ Spent 2 ∷ Accessed 2 1 (adds 4294967295) 6 ∷ Accessed 2 1 loads 5 ∷ taken)
other_old = untold both _ 1 refl

-- a sum at another index
other_sum : No both (Acted 1 Ended ∷ Spent 2 ∷ Accessed 2 0 (adds 4294967295) 5 ∷ Accessed 2 1 loads 5 ∷ taken)
other_sum = untold both _ 1 refl

-- two deeds swapped
swapped : No both (Acted 1 Ended ∷ Spent 2 ∷ Accessed 2 1 loads 5 ∷ Accessed 2 1 (adds 4294967295) 5 ∷ taken)
swapped = untold both _ 1 refl

-- a deed that was not asked
besides : No both (Acted 1 Ended ∷ Spent 2 ∷ Accessed 2 1 loads 5 ∷ Accessed 2 1 (adds 4294967295) 5 ∷ Accessed 2 1 loads 5 ∷ taken)
besides = untold both _ 1 refl

-- a deed missing
missing : No both (Acted 1 Ended ∷ Spent 2 ∷ Accessed 2 1 loads 5 ∷ taken)
missing = untold both _ 1 refl

-- the ticket is not spent at the closing
unspent : No both (Acted 1 Ended ∷ Accessed 2 1 (adds 4294967295) 5 ∷ Accessed 2 1 loads 5 ∷ taken)
unspent = untold both _ 1 refl

-- the agent does not end
endless : No both (Spent 2 ∷ Accessed 2 1 (adds 4294967295) 5 ∷ Accessed 2 1 loads 5 ∷ taken)
endless = untold both _ 1 refl

-- the ticket is spent after the end
late : No both (Spent 2 ∷ Acted 1 Ended ∷ Accessed 2 1 (adds 4294967295) 5 ∷ Accessed 2 1 loads 5 ∷ taken)
late = untold both _ 1 refl

-- What the worker says

-- another length
other_length : No (maker ∷ (Did (Length x b, Object 1 ∷ [], Gives (Number (pos 5))) ∷ got) ∷ []) taken
other_length = untold _ _ 1 refl

-- two buffers over one block that are said to be over two
not_same : No (maker ∷ (Did (SameBlock x b b, Object 1 ∷ Object 1 ∷ [], Gives (Boolean false)) ∷ got) ∷ []) taken
not_same = untold _ _ 1 refl

-- two buffers, of which one has no ticket
no_buffer : No (maker ∷ (Did (SameBlock x b b, Object 1 ∷ Object 2 ∷ [], Gives (Boolean false)) ∷ got) ∷ []) taken
no_buffer = untold _ _ 1 refl

-- the length of no buffer
no_length : No (maker ∷ (Did (Length x b, Object 2 ∷ [], Gives (Number (pos 4))) ∷ got) ∷ []) taken
no_length = untold _ _ 1 refl

-- Messages

-- a post dropped
dropped : No both (Acted 1 Ended ∷ Spent 2 ∷ Accessed 2 1 (adds 4294967295) 5 ∷ Accessed 2 1 loads 5 ∷ Acted 0 Ended ∷ Spent 1 ∷ Taken 0 1 ∷ Accessed 1 1 (stores 5) 0
    ∷ Acted 1 (Waiting 0) ∷ opened)
dropped = untold both _ 0 refl

-- a post to another agent
to_another : No ((Did (Post 1 b, Object 1 ∷ [], Nothing) ∷ made) ∷ idle ∷ []) (Acted 1 Ended ∷ Posted 0 0 (Block 1 2) ∷ Accessed 1 1 (stores 5) 0
    ∷ opened)
to_another = untold _ _ 0 refl

-- a post of another value
other_value : No ((Did (Post 1 x, Number (pos 7) ∷ [], Nothing) ∷ []) ∷ idle ∷ []) (Acted 1 Ended
    ∷ Posted 0 1 (Plain (Number (pos 8))) ∷ [])
other_value = untold _ _ 0 refl

-- a post of another block
other_block : No ((Did (Post 1 b, Object 1 ∷ [], Nothing) ∷ made) ∷ idle ∷ []) (Acted 1 Ended ∷ Posted 0 1 (Block 2 2) ∷ Accessed 1 1 (stores 5) 0
    ∷ opened)
other_block = untold _ _ 0 refl

-- a block that is posted for a value
block_for_value : No ((Did (Post 1 x, Number (pos 1) ∷ [], Nothing) ∷ []) ∷ idle ∷ []) (Acted 1 Ended ∷ Posted 0 1 (Block 1 1) ∷ [])
block_for_value = untold _ _ 0 refl

-- an object as such is posted
object_as_such : No ((Did (Post 1 b, Object 1 ∷ [], Nothing) ∷ made) ∷ idle ∷ []) (Acted 1 Ended ∷ Posted 0 1 (Plain (Object 1))
    ∷ Accessed 1 1 (stores 5) 0 ∷ opened)
object_as_such = untold _ _ 0 refl

-- another value is received
other_received : No ((Did (Post 1 x, Number (pos 7) ∷ [], Nothing) ∷ []) ∷ (Received 0 (Number (pos 8)) ∷ []) ∷ []) (Taken 0 1
    ∷ Posted 0 1 (Plain (Number (pos 7))) ∷ [])
other_received = untold _ _ 1 refl

-- an object is received for a value
object_received : No ((Did (Post 1 x, Number (pos 7) ∷ [], Nothing) ∷ []) ∷ (Received 0 (Object 1) ∷ []) ∷ []) (Taken 0 1
    ∷ Posted 0 1 (Plain (Number (pos 7))) ∷ [])
object_received = untold _ _ 1 refl

-- a value is received for a block
value_received : No (maker ∷ (Received 0 (Number (pos 7)) ∷ []) ∷ []) (Acted 0 Ended ∷ Spent 1 ∷ Taken 0 1 ∷ posted)
value_received = untold _ _ 1 refl

-- a message is received of another sender
other_sender : No (maker ∷ (Received 1 (Object 1) ∷ []) ∷ []) (Acted 0 Ended ∷ Spent 1 ∷ Taken 0 1 ∷ posted)
other_sender = untold _ _ 1 refl

-- a message is taken and not received
unreceived : No (maker ∷ [] ∷ []) (Acted 0 Ended ∷ Spent 1 ∷ Taken 0 1 ∷ posted)
unreceived = untold _ _ 1 refl

-- a message is taken of an empty port
from_nowhere : No (idle ∷ [] ∷ []) (Taken 0 1 ∷ Acted 0 Ended ∷ [])
from_nowhere = untold _ _ 1 refl

-- an object as such is received
object_message : No ([] ∷ (Received 0 (Object 1) ∷ []) ∷ []) (Taken 0 1 ∷ Posted 0 1 (Plain (Object 1)) ∷ [])
object_message = untold _ _ 1 refl

-- the newer of two messages is received first
out_of_order : No ((Did (Post 1 x, Number (pos 8) ∷ [], Nothing) ∷ Did (Post 1 x, Number (pos 7) ∷ [], Nothing) ∷ [])
    ∷ (Received 0 (Number (pos 8)) ∷ []) ∷ []) (Taken 0 1 ∷ Posted 0 1 (Plain (Number (pos 8)))
    ∷ Posted 0 1 (Plain (Number (pos 7))) ∷ [])
out_of_order = untold _ _ 1 refl

-- What the maker does

-- a store of another number
other_number : No (made ∷ [] ∷ []) (Accessed 1 1 (stores 6) 0 ∷ opened)
other_number = untold _ _ 0 refl

-- a store at another index
other_index : No (made ∷ [] ∷ []) (Accessed 1 0 (stores 5) 0 ∷ opened)
other_index = untold _ _ 0 refl

-- a store at a negative index
negative_index : No ((Did (store b (negsuc 0) (pos 5), Object 1 ∷ [], Nothing)
    ∷ Did (SharedArrayBuffer b 4, [], Gives (Object 1)) ∷ []) ∷ [] ∷ []) (Accessed 1 1 (stores 5) 0 ∷ opened)
negative_index = untold _ _ 0 refl

-- a block of another size
other_size : No (made ∷ [] ∷ []) (Accessed 1 1 (stores 5) 0 ∷ Opened 1 5 1 0 ∷ [])
other_size = untold _ _ 0 refl

-- Skips and waits

abbrev skips : List History
skips = idle ∷ skipper ∷ []

-- the job of another sender is skipped
skips_another : No (idle ∷ (Closed ∷ Skipped 1 1 ∷ []) ∷ []) passed
skips_another = untold _ _ 1 refl

-- a job is skipped and no word of it stands in the ledger
skips_alone : No skips (Acted 1 Ended ∷ Acted 0 Ended ∷ Acted 1 (Waiting 0) ∷ [])
skips_alone = untold _ _ 1 refl

-- an agent that waits ends
ends_waiting : No (idle ∷ idle ∷ []) (Acted 1 Ended ∷ Acted 0 Ended ∷ Acted 1 (Waiting 0) ∷ [])
ends_waiting = impatient _ _ refl

-- an agent that waits for one sender skips for another
skips_for_another : No (idle ∷ (Closed ∷ Skipped 1 2 ∷ []) ∷ []) (Acted 1 Ended ∷ Acted 1 (Passed 2) ∷ Acted 0 Ended ∷ Acted 1 (Waiting 0) ∷ [])
skips_for_another = impatient _ _ refl

-- an agent that waits begins to wait again
waits_twice : No skips (Acted 1 Ended ∷ Acted 1 (Passed 0) ∷ Acted 0 Ended ∷ Acted 1 (Waiting 0) ∷ Acted 1 (Waiting 0) ∷ [])
waits_twice = impatient _ _ refl

-- an agent that waits for one sender takes a message of another
takes_of_another : No (idle ∷ (Received 1 (Number (pos 7)) ∷ Did (Post 1 x, Number (pos 7) ∷ [], Nothing) ∷ []) ∷ []) (Taken 1 1
    ∷ Acted 1 (Waiting 0) ∷ Posted 1 1 (Plain (Number (pos 7))) ∷ Acted 0 Ended ∷ [])
takes_of_another = impatient _ _ refl

-- an agent that waits goes on with something else

abbrev waiting : Ledger
waiting = Acted 0 (Waiting 1) ∷ opened

opens_waiting : (hs : List History) → No hs (Opened 2 4 2 0 ∷ waiting)
opens_waiting hs = impatient _ _ refl

posts_waiting : (hs : List History) → No hs (Posted 0 1 (Plain (Number (pos 7))) ∷ waiting)
posts_waiting hs = impatient _ _ refl

spends_waiting : (hs : List History) → No hs (Spent 1 ∷ waiting)
spends_waiting hs = impatient _ _ refl

loads_waiting : (hs : List History) → No hs (Accessed 1 0 loads 0 ∷ waiting)
loads_waiting hs = impatient _ _ refl

stores_waiting : (hs : List History) → No hs (Accessed 1 0 (stores 5) 0 ∷ waiting)
stores_waiting hs = impatient _ _ refl

adds_waiting : (hs : List History) → No hs (Accessed 1 0 (adds 5) 0 ∷ waiting)
adds_waiting hs = impatient _ _ refl

-- Refusals

abbrev refuses : List History
refuses = poster ∷ refuser ∷ []

-- the ticket of a refused receipt is not spent
keeps_ticket : No refuses (Acted 1 Ended ∷ Taken 0 1 ∷ Acted 0 Ended ∷ Spent 1 ∷ Posted 0 1 (Block 1 3) ∷ Posted 0 1 (Block 1 2)
    ∷ Opened 1 4 1 0 ∷ [])
keeps_ticket = untold _ _ 1 refl

-- after a refused receipt another ticket is spent than that of the message
spends_other : No (poster ∷ later_refuser ∷ []) (Spent 2 ∷ Taken 0 1 ∷ before_later)
spends_other = untold _ _ 1 refl

-- a receipt is refused of a value without a ticket
refuses_value : No ((Did (Post 1 x, Number (pos 7) ∷ [], Nothing) ∷ []) ∷ (Refused TooManyValues ∷ []) ∷ []) (Taken 0 1
    ∷ Posted 0 1 (Plain (Number (pos 7))) ∷ [])
refuses_value = untold _ _ 1 refl

-- a command is refused, which asks nothing of the ledger
refuses_command : No (poster ∷ (Refused TooManyValues ∷ JobBegun 1 ∷ []) ∷ []) (Spent 2 ∷ Taken 0 1 ∷ Acted 0 Ended ∷ Spent 1
    ∷ Posted 0 1 (Block 1 3) ∷ Posted 0 1 (Block 1 2) ∷ Opened 1 4 1 0 ∷ [])
refuses_command = untold _ _ 1 refl

-- a refusal for another reason asks nothing
refuses_otherwise : No (poster ∷ (Refused TooManyPosts ∷ []) ∷ []) (Spent 2 ∷ Taken 0 1 ∷ Acted 0 Ended ∷ Spent 1
    ∷ Posted 0 1 (Block 1 3) ∷ Posted 0 1 (Block 1 2) ∷ Opened 1 4 1 0 ∷ [])
refuses_otherwise = untold _ _ 1 refl

-- Drains

-- an agent does something after a drain
not_last : No refuses (Acted 1 Ended ∷ Spent 3 ∷ Drained 0 1 ∷ Spent 2 ∷ Taken 0 1 ∷ Acted 0 Ended ∷ Spent 1 ∷ Posted 0 1 (Block 1 3)
    ∷ Posted 0 1 (Block 1 2) ∷ Opened 1 4 1 0 ∷ [])
not_last = after_drain _ _ refl

-- an agent begins to wait after a drain
waits_last : No refuses (Acted 1 (Waiting 0) ∷ drained)
waits_last = after_drain _ _ refl

-- Collections

abbrev collects : List History
collects = sharer ∷ collector ∷ []

-- one ticket is not spent
one_left : No collects (Acted 1 Ended ∷ Spent 3 ∷ shared)
one_left = untold _ _ 1 refl

-- a ticket is spent twice
spent_twice : No collects (Acted 1 Ended ∷ Spent 3 ∷ Spent 3 ∷ shared)
spent_twice = untold _ _ 1 refl

-- a ticket is spent whose buffer is not emptied
not_emptied : No (sharer ∷ (Emptied (1 ∷ []) ∷ received) ∷ []) (Spent 3 ∷ Spent 2 ∷ shared)
not_emptied = untold _ _ 1 refl

-- the ticket of another buffer is spent
other_emptied : No (sharer ∷ (Emptied (1 ∷ []) ∷ received) ∷ []) (Spent 3 ∷ shared)
other_emptied = untold _ _ 1 refl

-- an emptied buffer is read
reads_emptied : No (sharer ∷ (Did (Length x b, Object 1 ∷ [], Gives (Number (pos 4))) ∷ Emptied (1 ∷ []) ∷ received)
    ∷ []) (Spent 2 ∷ shared)
reads_emptied = untold _ _ 1 refl

-- Two buffers of one agent

abbrev two_opened : Ledger
two_opened = Opened 2 3 2 0 ∷ Opened 1 4 1 0 ∷ []

abbrev two_made : History
two_made = Did (SharedArrayBuffer x 3, [], Gives (Object 2)) ∷ Did (SharedArrayBuffer b 4, [], Gives (Object 1)) ∷ []

-- a word is read through the ticket of the other buffer
loads_other : No ((Did (load x b (pos 0), Object 1 ∷ [], Gives (Number (pos 0))) ∷ two_made) ∷ [] ∷ []) (Accessed 2 0 loads 0
    ∷ two_opened)
loads_other = untold _ _ 0 refl

-- a word is written through it
stores_other : No ((Did (store b (pos 0) (pos 5), Object 1 ∷ [], Nothing) ∷ two_made) ∷ [] ∷ []) (Accessed 2 0 (stores 5) 0 ∷ two_opened)
stores_other = untold _ _ 0 refl

-- an addend is added through it
adds_other : No ((Did (add x b (pos 0) (pos 5), Object 1 ∷ [], Gives (Number (pos 0))) ∷ two_made) ∷ [] ∷ []) (Accessed 2 0 (adds 5) 0
    ∷ two_opened)
adds_other = untold _ _ 0 refl

-- the block of the other buffer is posted
posts_other : No ((Did (Post 1 b, Object 1 ∷ [], Nothing) ∷ two_made) ∷ [] ∷ []) (Posted 0 1 (Block 2 3) ∷ two_opened)
posts_other = untold _ _ 0 refl

-- two blocks are said to be one
said_same : No ((Did (SameBlock x b b, Object 1 ∷ Object 2 ∷ [], Gives (Boolean true)) ∷ two_made) ∷ [] ∷ []) two_opened
said_same = untold _ _ 0 refl

-- Strangers

-- an agent that is not there ends
stranger : No (idle ∷ idle ∷ []) (Acted 2 Ended ∷ Acted 1 Ended ∷ Acted 0 Ended ∷ [])
stranger = untold _ _ 2 refl
