-- Wrong neighbours of the histories of buffers and messages, each of which the definitions refuse.
use Rattle.std.proofs.Common.{◌≡◌, ℕ, Bool, true, false, refl, ap, arith, List, [], ◌∷◌, Some, None, Result, Ok, rules}
use Rattle.std.specs.Prelude.{pos, negsuc, ◌==◌}
use Rattle.std.specs.List.{list_all}
use Rattle.std.proofs.lemmas.Bool.{false≢true}
use Rattle.es_value.specs.declared.value.Value.{Value}
use Rattle.es_value.specs.declared.value.Value.TheVariants.{Undefined, Boolean, Number, Text, Object, Symbol as SymbolValue}
use Rattle.es_event.specs.declared.command.Command.TheVariants.{Get, WeakRef, Deref, WeakMapGet, WeakSetAdd, Register, SharedArrayBuffer, Length, SameBlock, Post}
use Rattle.es_event.specs.declared.event.Answer.{Answer}
use Rattle.es_event.specs.declared.event.Answer.TheVariants.{Nothing, Gives}
use Rattle.es_event.specs.declared.event.Event.TheVariants.{JobBegun, CleanupBegun, Received, Did, Refused, Emptied, JobEnded, Skipped, Closed}
use Rattle.es_event.specs.declared.event.Refusal.{Refusal}
use Rattle.es_event.specs.declared.event.Refusal.TheVariants.{NotAnObject, IndexOutOfRange, NotPostable, TooManyValues}
use Rattle.es_event.specs.Commands.{shared_buffer, is_shared}
use Rattle.es_event.specs.History.{History}
use Rattle.es_event.specs.Identities.{is_in, made, kind}
use Rattle.es_event.specs.Jobs.{Receivers, receivers, job, cleaning, stays_alone}
use Rattle.es_event.specs.Variables.{var}
use Rattle.es_event.specs.WeakRefs.{kept}
use Rattle.es_event.specs.Sharing.{blocks_opened, messages_posted}
use Rattle.es_event.specs.Legal.{Lawful}
use Rattle.es_event.specs.Live.{Oblivious, observes, Honest}
use Rattle.es_event.specs.Order.{phase, between, handed, receive, close, due, left, queue, is_cleaning_up}
use Rattle.es_event.specs.Heard.{a_word, silence}
use Rattle.es_event.specs.Runs.{ComesNext, heard}
use Rattle.es_event.proofs.Examples.{load, store, add, plan_with, IsUnlawful, IsOutOfPlace, IsUnlawfulOver, IsOutOfPlaceOver}
use Rattle.es_laws.proofs.ExampleDeref as Deref
use Rattle.es_laws.proofs.ExampleBuffers as Buffers
use Rattle.es_laws.proofs.ExampleBuffers.{said, made_buffer, made_new, loaded}
use Rattle.es_laws.proofs.ExampleMessages as Messages
use Rattle.es_laws.proofs.ExampleMessages.{posted}
use Rattle.es_laws.proofs.Letters.{b, k, m, n, o, p, u, w, x, y}

-- Words

-- whether a command gave this number
abbrev gave : ℕ → Result Answer Refusal → Bool
gave n (Ok (Gives (Number (pos k)))) = k == n
gave n _ = false

-- a load gives a number of 33 bits
word_too_big : IsUnlawfulOver Buffers.one_word Buffers.plan_words Buffers.stored (loaded x b (pos 0) 1 4294967296)
word_too_big l = false≢true (ap (gave 4294967296) l.1)

-- so does an add
added_word_too_big : IsUnlawfulOver Buffers.one_word Buffers.plan_words Buffers.said_first (Did (add y b (pos 0) (pos 2), Object 1 ∷ [], Gives (Number (pos 4294967297))))
added_word_too_big l = false≢true (ap (gave 4294967297) l.1)

-- the greatest word is read
greatest_word : Lawful Buffers.one_word (receivers Buffers.plan_words.jobs) Buffers.stored (loaded x b (pos 0) 1 4294967295)
greatest_word = search rules

-- a load gives a number below 0
word_below_zero : IsUnlawfulOver Buffers.one_word Buffers.plan_words Buffers.stored (Did (load x b (pos 0), Object 1 ∷ [], Gives (Number (negsuc 0))))
word_below_zero l = cc

-- so does an add
added_word_below_zero : IsUnlawfulOver Buffers.one_word Buffers.plan_words Buffers.said_first (Did (add y b (pos 0) (pos 2), Object 1 ∷ [], Gives (Number (negsuc 0))))
added_word_below_zero l = cc

-- a load gives undefined
word_undefined : IsUnlawfulOver Buffers.one_word Buffers.plan_words Buffers.stored (Did (load x b (pos 0), Object 1 ∷ [], Gives Undefined))
word_undefined l = cc

-- or nothing
word_missing : IsUnlawfulOver Buffers.one_word Buffers.plan_words Buffers.stored (Did (load x b (pos 0), Object 1 ∷ [], Nothing))
word_missing l = cc

-- a store gives the number that it wrote
store_gives : IsUnlawfulOver Buffers.one_word Buffers.plan_words Buffers.made_words (Did (store b (pos 0) (negsuc 0), Object 1 ∷ [], Gives (Number (negsuc 0))))
store_gives l = cc

-- a word is read at an index that the block does not have
load_past_the_end : IsUnlawfulOver Buffers.no_word Buffers.plan_empty Buffers.said_length (loaded x b (pos 0) 1 0)
load_past_the_end l = cc

store_past_the_end : IsUnlawfulOver Buffers.two_words Buffers.plan_refused Buffers.loaded_last (Did (store b (pos 2) (pos 7), Object 2 ∷ [], Nothing))
store_past_the_end l = cc

load_below_zero : IsUnlawfulOver Buffers.two_words Buffers.plan_refused Buffers.made_second (loaded x b (negsuc 0) 2 0)
load_below_zero l = cc

-- a word is read of an object that is no buffer, which the table has all the same
load_of_an_object : IsUnlawfulOver Buffers.one_word Buffers.plan_refused Buffers.made_ordinary (loaded x o (pos 0) 1 0)
load_of_an_object l = cc

-- a load is refused for its index where there is a word
refused_for_nothing : IsOutOfPlaceOver Buffers.one_word Buffers.plan_words Buffers.stored (Refused IndexOutOfRange)
refused_for_nothing p = cc

-- the code of a later test, where an earlier one fails
later_code : IsOutOfPlaceOver Buffers.two_words Buffers.plan_refused Buffers.made_ordinary (Refused IndexOutOfRange)
later_code p = cc

-- a word that is read comes from outside: two loads with different words may both come next
one_word_next : ComesNext Buffers.one_word Buffers.plan_words Buffers.stored (loaded x b (pos 0) 1 7)
one_word_next = search rules

other_word_next : ComesNext Buffers.one_word Buffers.plan_words Buffers.stored (loaded x b (pos 0) 1 8)
other_word_next = search rules

-- and are heard apart
heard_apart : heard (loaded x b (pos 0) 1 7) ≡ heard (loaded x b (pos 0) 1 8) → ⊥
heard_apart e = cc

what_a_load_hears : heard (loaded x b (pos 0) 1 7) ≡ a_word 7
what_a_load_hears = refl

what_an_add_hears : heard (Did (add y b (pos 0) (pos 2), Object 1 ∷ [], Gives (Number (pos 7)))) ≡ a_word 7
what_an_add_hears = refl

-- a store, a length and a post hear nothing
store_hears_nothing : heard (Did (store b (pos 0) (pos 7), Object 1 ∷ [], Nothing)) ≡ silence
store_hears_nothing = refl

length_hears_nothing : heard (Did (Length n b, Object 1 ∷ [], Gives (Number (pos 7)))) ≡ silence
length_hears_nothing = refl

post_hears_nothing : heard (posted n (Number (pos 7))) ≡ silence
post_hears_nothing = refl

-- and so may two messages, or none
one_message_next : ComesNext [] Messages.plan_number [] (Received 1 (Number (pos 1)))
one_message_next = search rules

other_message_next : ComesNext [] Messages.plan_number [] (Received 1 Undefined)
other_message_next = search rules

no_message_next : ComesNext [] Messages.plan_number [] (Skipped 1 1)
no_message_next = search rules

messages_apart : heard (Received 1 (Number (pos 1))) ≡ heard (Received 1 Undefined) → ⊥
messages_apart e = cc

message_or_none : heard (Received 1 Undefined) ≡ heard (Skipped 1 1) → ⊥
message_or_none e = cc

-- a receipt that is refused is heard as no message is not
refusal_or_none : heard (Refused TooManyValues) ≡ heard (Skipped 1 1) → ⊥
refusal_or_none e = cc

-- Agents that hear of nobody

words_are_heard : stays_alone Buffers.plan_words ≡ false
words_are_heard = refl

messages_are_heard : stays_alone Messages.plan_number ≡ false
messages_are_heard = refl

-- each of the seven commands, in a job or in a callback
each_is_shared : list_all is_shared (SharedArrayBuffer b 1 ∷ Length n b ∷ SameBlock x b b ∷ load x b (pos 0) ∷ store b (pos 0) (pos 1) ∷ add x b (pos 0) (pos 1) ∷ Post 1 n ∷ []) ≡ true
each_is_shared = refl

callbacks_are_asked : stays_alone (plan_with (Post 1 n ∷ []) ([] ∷ [])) ≡ false
callbacks_are_asked = refl

-- and an agent with none of them
stays_by_itself : stays_alone Deref.plan ≡ true
stays_by_itself = refl

-- Lengths and blocks

-- a length is another number than the table's
other_length : IsUnlawfulOver Messages.four_words Messages.plan_buffer Messages.begun_buffer (Did (Length n m, Object 1 ∷ [], Gives (Number (pos 3))))
other_length l = cc

-- it is the number of the block
length_is_the_block : IsUnlawfulOver Messages.four_words Messages.plan_buffer Messages.begun_buffer (Did (Length n m, Object 1 ∷ [], Gives (Number (pos 2))))
length_is_the_block l = cc

-- an object that is no buffer has a length
length_of_an_object : IsUnlawfulOver Buffers.two_words Buffers.plan_refused (JobBegun 6 ∷ Buffers.refused_add) (Did (Length x o, Object 1 ∷ [], Gives (Number (pos 0))))
length_of_an_object l = cc

-- two buffers over one block are over two
one_block_is_two : IsUnlawfulOver Buffers.one_block Buffers.plan_same Buffers.begun_other (Did (SameBlock x b m, Object 1 ∷ Object 2 ∷ [], Gives (Boolean false)))
one_block_is_two l = cc

-- two that are over two, with as many words, are over one
two_blocks_are_one : IsUnlawfulOver Buffers.two_blocks Buffers.plan_same Buffers.begun_other (Did (SameBlock x b m, Object 1 ∷ Object 2 ∷ [], Gives (Boolean true)))
two_blocks_are_one l = cc

-- two buffers over one block are one value
buffers_alike : IsUnlawfulOver Buffers.one_block Buffers.plan_same Buffers.begun_other (Did (SameBlock x b m, Object 1 ∷ Object 1 ∷ [], Gives (Boolean true)))
buffers_alike l = cc

-- Making a buffer

-- the table's row has another number of words
made_with_other_words : IsUnlawfulOver Buffers.two_words Buffers.plan_refused (JobBegun 3 ∷ Buffers.refused_undefined) (made_buffer b 3 2)
made_with_other_words l = cc

-- the same in a plan that asks for one word, over a block of none
made_with_no_word : IsUnlawfulOver Buffers.no_word Buffers.plan_words Buffers.begun_words (made_buffer b 1 1)
made_with_no_word l = cc

-- the table lacks it
made_without_a_row : IsUnlawful Buffers.plan_words Buffers.begun_words (made_buffer b 1 1)
made_without_a_row l = cc

-- the row is of another object
made_with_the_row_of_another : IsUnlawfulOver Buffers.two_words Buffers.plan_words Buffers.begun_words (made_buffer b 2 1)
made_with_the_row_of_another l = cc

-- its number is not the next
buffer_left_out : IsUnlawfulOver Buffers.two_words Buffers.plan_words Buffers.begun_words (made_buffer b 2 2)
buffer_left_out l = cc

-- another number of words than the plan asks for
other_words_than_asked : IsOutOfPlaceOver Buffers.one_word Buffers.plan_words Buffers.begun_words (made_buffer b 2 1)
other_words_than_asked p = cc

-- an ordinary object needs no row
object_without_a_row : Lawful [] (receivers Buffers.plan_refused.jobs) (JobBegun 1 ∷ []) (made_new o 1)
object_without_a_row = search rules

-- What is received

-- an object that is not the next number
received_with_a_gap : IsUnlawfulOver Buffers.two_words Messages.plan_buffer [] (Received 1 (Object 2))
received_with_a_gap l = cc

-- one that is there already
received_again : IsUnlawfulOver Messages.four_words Messages.plan_buffer Messages.received_buffer (Received 1 (Object 1))
received_again l = cc

-- a symbol
received_a_symbol : IsUnlawfulOver Messages.four_words Messages.plan_buffer [] (Received 1 (SymbolValue 1))
received_a_symbol l = cc

-- an object that the table lacks
received_without_a_row : IsUnlawful Messages.plan_buffer [] (Received 1 (Object 1))
received_without_a_row l = cc

-- what has no identity needs no row
received_undefined : Lawful [] (receivers Messages.plan_buffer.jobs) [] (Received 1 Undefined)
received_undefined = search rules

-- from another sender
other_sender : IsOutOfPlace Messages.plan_number [] (Received 2 (Number (pos 1)))
other_sender p = cc

-- from the sender of the next job
sender_of_the_next : IsOutOfPlace Messages.plan_two [] (Received 2 (Number (pos 1)))
sender_of_the_next p = cc

-- where a job is due that waits for none
not_waiting : IsOutOfPlace Buffers.plan_words [] (Received 1 (Number (pos 1)))
not_waiting p = p

-- inside a job
received_inside : IsOutOfPlace Messages.plan_twice (JobBegun 1 ∷ Received 1 (Boolean true) ∷ []) (Received 1 (Boolean true))
received_inside p = p

-- after the agent's last job
received_at_the_end : IsOutOfPlace Messages.plan_twice (Skipped 2 1 ∷ Skipped 1 1 ∷ []) (Received 1 (Boolean true))
received_at_the_end p = p

-- a message is received twice
received_twice : IsOutOfPlace Messages.plan_number Messages.received (Received 1 (Number (pos 1)))
received_twice p = p

-- though the next job waits for one of the same sender
received_for_the_next : IsOutOfPlace Messages.plan_twice (Received 1 (Boolean true) ∷ []) (Received 1 (Boolean true))
received_for_the_next p = p

-- a job begins before its message
begun_before : IsOutOfPlace Messages.plan_number [] (JobBegun 1)
begun_before p = p

-- the next one begins after the message
next_begun : IsOutOfPlace Messages.plan_twice (Received 1 (Boolean true) ∷ []) (JobBegun 2)
next_begun p = cc

-- a command is done before its job begins
done_before : IsOutOfPlace Messages.plan_number Messages.received (said m (Number (pos 1)))
done_before p = p

-- the job ends before it begins
ended_before : IsOutOfPlace Messages.plan_number Messages.received JobEnded
ended_before p = p

-- the agent closes before it begins
closed_before : IsOutOfPlace Messages.plan_number Messages.received Closed
closed_before p = p

-- a receipt is refused though there is room
refused_with_room : IsOutOfPlace Messages.plan_buffer [] (Refused TooManyValues)
refused_with_room p = let test = p.1 in cc

-- or for what refuses a command
refused_otherwise : IsOutOfPlace Messages.plan_buffer [] (Refused NotPostable)
refused_otherwise p = cc

-- the message goes to the variable of another job
assigns_another : var (receivers Messages.plan_two.jobs) Messages.received_two m ≡ Undefined
assigns_another = refl

-- to that of its own job it does
assigns_its_own : var (receivers Messages.plan_two.jobs) Messages.received_two n ≡ Text k
assigns_its_own = refl

-- it is read before it is received
read_before : IsUnlawful Messages.plan_number Messages.begun (said m Undefined)
read_before l = cc

-- Skips

-- of another job
skips_another : IsOutOfPlace Messages.plan_number [] (Skipped 2 1)
skips_another p = cc

-- of the one before, again
skips_again : IsOutOfPlace Messages.plan_twice (Skipped 1 1 ∷ []) (Skipped 1 1)
skips_again p = cc

-- for another sender
skips_for_another : IsOutOfPlace Messages.plan_number [] (Skipped 1 2)
skips_for_another p = cc

-- of a job that waits for none
skips_without_waiting : IsOutOfPlace Buffers.plan_words [] (Skipped 1 1)
skips_without_waiting p = p

-- after the receipt
skips_after_the_receipt : IsOutOfPlace Messages.plan_number Messages.received (Skipped 1 1)
skips_after_the_receipt p = p

-- inside the job
skips_inside : IsOutOfPlace Messages.plan_number Messages.begun (Skipped 1 1)
skips_inside p = p

-- a job that was skipped begins
begun_after_a_skip : IsOutOfPlace Messages.plan_number Messages.skipped (JobBegun 1)
begun_after_a_skip p = p

-- it ends
ended_after_a_skip : IsOutOfPlace Messages.plan_number Messages.skipped JobEnded
ended_after_a_skip p = p

-- its message is received
received_after_a_skip : IsOutOfPlace Messages.plan_number Messages.skipped (Received 1 (Number (pos 1)))
received_after_a_skip p = p

-- a skip is of the job, and the next one is due
job_after_a_skip : job (Skipped 1 1 ∷ []) ≡ 2
job_after_a_skip = refl

next_after_a_skip : due Messages.plan_two (Skipped 1 1 ∷ []) ≡ receive 2 2
next_after_a_skip = refl

none_after_the_last : due Messages.plan_number Messages.skipped ≡ close
none_after_the_last = refl

-- no job is under way after a skip, which begins and ends none
between_after_a_skip : phase (Skipped 1 1 ∷ []) ≡ between
between_after_a_skip = refl

skip_leaves_the_phase : (h : History) (j t : ℕ) → phase (Skipped j t ∷ h) ≡ phase h
skip_leaves_the_phase h j t = refl

-- nor does it begin or end a cleanup job
skip_leaves_the_cleaning : (h : History) (j t : ℕ) → cleaning (Skipped j t ∷ h) ≡ cleaning h
skip_leaves_the_cleaning h j t = refl

receipt_leaves_the_cleaning : (h : History) (t : ℕ) (v : Value) → cleaning (Received t v ∷ h) ≡ cleaning h
receipt_leaves_the_cleaning h t v = refl

-- a receipt passes no job
job_after_a_receipt : job Messages.received ≡ 1
job_after_a_receipt = refl

handed_after_a_receipt : phase Messages.received ≡ handed
handed_after_a_receipt = refl

-- a skip makes no variable defined
skip_assigns : (into : Receivers) (h : History) (j t : ℕ) (x : List ℕ) → var into (Skipped j t ∷ h) x ≡ var into h x
skip_assigns into h j t x = refl

-- KeptAlive

-- a receipt keeps nothing
receipt_keeps_nothing : kept Messages.received_buffer ≡ []
receipt_keeps_nothing = refl

-- and leaves what is kept
receipt_leaves_kept : (h : History) (t : ℕ) (v : Value) → kept (Received t v ∷ h) ≡ kept h
receipt_leaves_kept h t v = refl

-- a skip does not clear it
abbrev keeps_one : History
keeps_one = Did (WeakRef w o, Object 1 ∷ [], Gives (Object 2)) ∷ made_new o 1 ∷ JobBegun 1 ∷ []

cleared_by_a_skip : is_in (kept (Skipped 2 1 ∷ keeps_one)) 1 ≡ false → ⊥
cleared_by_a_skip e = cc

-- a job's end does
cleared_by_an_end : is_in (kept (JobEnded ∷ keeps_one)) 1 ≡ true → ⊥
cleared_by_an_end e = cc

-- Look-backs

-- a receipt opens no block
receipt_opens_none : blocks_opened Messages.received_buffer ≡ 0
receipt_opens_none = refl

-- a buffer does, of no words too
buffer_opens_one : blocks_opened Buffers.made_empty ≡ 1
buffer_opens_one = refl

-- each of two buffers does, and a receipt between them does not
abbrev two_buffers : History
two_buffers = made_buffer b 1 3 ∷ Received 1 (Object 2) ∷ JobEnded ∷ made_buffer b 1 1 ∷ JobBegun 1 ∷ []

two_are_opened : blocks_opened two_buffers ≡ 2
two_are_opened = refl

-- nothing else opens one
skip_opens_none : (h : History) (j t : ℕ) → blocks_opened (Skipped j t ∷ h) ≡ blocks_opened h
skip_opens_none h j t = omega arith

refusal_opens_none : (h : History) (code : Refusal) → blocks_opened (Refused code ∷ h) ≡ blocks_opened h
refusal_opens_none h code = omega arith

end_opens_none : (h : History) → blocks_opened (JobEnded ∷ h) ≡ blocks_opened h
end_opens_none h = omega arith

object_opens_none : (h : History) → blocks_opened (made_new o 1 ∷ h) ≡ blocks_opened h
object_opens_none h = omega arith

-- messages are counted over all receivers
abbrev posted_to_two : History
posted_to_two = Did (Post 2 n, Undefined ∷ [], Nothing) ∷ Did (Post 1 n, Undefined ∷ [], Nothing) ∷ JobBegun 1 ∷ []

counted_over_all : messages_posted posted_to_two ≡ 2
counted_over_all = refl

-- the seven of a plan, and none that was refused
counted_without_refused : messages_posted Messages.closed_posts ≡ 7
counted_without_refused = refl

-- nothing else posts one
receipt_posts_none : (h : History) (t : ℕ) (v : Value) → messages_posted (Received t v ∷ h) ≡ messages_posted h
receipt_posts_none h t v = omega arith

skip_posts_none : (h : History) (j t : ℕ) → messages_posted (Skipped j t ∷ h) ≡ messages_posted h
skip_posts_none h j t = omega arith

refusal_posts_none : (h : History) (code : Refusal) → messages_posted (Refused code ∷ h) ≡ messages_posted h
refusal_posts_none h code = omega arith

-- a received object is made, and a received number is not
object_is_made : made Messages.received_buffer ≡ 1
object_is_made = refl

number_is_not_made : made Messages.received ≡ 0
number_is_not_made = refl

-- so that the next object has the next number
next_number : IsUnlawfulOver Messages.four_words Messages.plan_buffer Messages.begun_buffer (made_new o 1)
next_number l = cc

-- a received object is a buffer
kind_of_a_received : kind Messages.received_buffer 1 ≡ Some shared_buffer
kind_of_a_received = refl

-- and a skip is of no object
kind_after_a_skip : kind Messages.skipped 1 ≡ None
kind_after_a_skip = refl

-- Cleanup jobs come before a message

-- a receipt where a cleanup job is queued
received_before_a_cleanup : IsOutOfPlace Messages.plan_cleanup Messages.ended_cleanup (Received 1 (Boolean true))
received_before_a_cleanup p = p

-- a skip there
skipped_before_a_cleanup : IsOutOfPlace Messages.plan_cleanup Messages.ended_cleanup (Skipped 2 1)
skipped_before_a_cleanup p = p

-- a refusal there
refused_before_a_cleanup : IsOutOfPlace Messages.plan_cleanup Messages.ended_cleanup (Refused TooManyValues)
refused_before_a_cleanup p = p

-- a receipt inside the cleanup job
received_in_a_cleanup : IsOutOfPlace Messages.plan_cleanup Messages.taken_cleanup (Received 1 (Boolean true))
received_in_a_cleanup p = p

-- a cleanup job between a receipt and its job
cleanup_after_a_receipt : IsOutOfPlace Messages.plan_cleanup (Received 1 (Boolean true) ∷ Messages.cleaned) (CleanupBegun 1)
cleanup_after_a_receipt p = p

-- a cleanup job after a skip
cleanup_after_a_skip : IsOutOfPlace Messages.plan_cleanup (Skipped 2 1 ∷ Messages.cleaned) (CleanupBegun 1)
cleanup_after_a_skip p = p

no_cleanup_after_a_skip : is_cleaning_up (Skipped 2 1 ∷ Messages.cleaned) ≡ false
no_cleanup_after_a_skip = refl

no_cleanup_after_a_receipt : is_cleaning_up (Received 1 (Boolean true) ∷ Messages.cleaned) ≡ false
no_cleanup_after_a_receipt = refl

-- the end of a cleanup job passes no job that waits
waiting_after_a_cleanup : due Messages.plan_cleanup Messages.cleaned ≡ receive 2 1
waiting_after_a_cleanup = refl

-- a receipt or a skip takes nothing from the queue, and queues nothing
receipt_leaves_the_queue : (h : History) (t : ℕ) (v : Value) → queue (Received t v ∷ h) ≡ queue h
receipt_leaves_the_queue h t v = refl

skip_leaves_the_queue : (h : History) (j t : ℕ) → queue (Skipped j t ∷ h) ≡ queue h
skip_leaves_the_queue h j t = refl

-- no command is left after a receipt, before its job begins
none_left_after_a_receipt : (h : History) (t : ℕ) (v : Value) → left Messages.plan_number (Received t v ∷ h) ≡ []
none_left_after_a_receipt h t v = refl

none_left_after_a_skip : (h : History) (j t : ℕ) → left Messages.plan_number (Skipped j t ∷ h) ≡ []
none_left_after_a_skip h j t = refl

-- A buffer is an object, and no other kind of one

-- a property of it is lost
property_lost : IsUnlawfulOver Buffers.three_words Buffers.plan_object Buffers.has_property (Did (Get y b p, Object 1 ∷ [], Gives Undefined))
property_lost l = cc

-- a set on it is refused
set_refused : IsOutOfPlaceOver Buffers.three_words Buffers.plan_object Buffers.made_object (Refused NotAnObject)
set_refused e = cc

-- it is a WeakMap
is_a_weakmap : IsUnlawfulOver Buffers.three_words Buffers.plan_object Buffers.begun_weakmap (Did (WeakMapGet y b b, Object 1 ∷ Object 1 ∷ [], Gives Undefined))
is_a_weakmap l = cc

-- a WeakRef
is_a_weakref : IsUnlawfulOver Buffers.three_words Buffers.plan_object Buffers.begun_deref (Did (Deref y b, Object 1 ∷ [], Gives Undefined))
is_a_weakref l = cc

-- a WeakSet
is_a_weakset : IsUnlawfulOver Buffers.three_words Buffers.plan_object Buffers.begun_weakset (Did (WeakSetAdd b b, Object 1 ∷ Object 1 ∷ [], Nothing))
is_a_weakset l = cc

-- a FinalizationRegistry
is_a_registry : IsUnlawfulOver Buffers.three_words Buffers.plan_object Buffers.begun_register (Did (Register b o u None, Object 1 ∷ Undefined ∷ Undefined ∷ [], Nothing))
is_a_registry l = cc

-- a WeakRef to a buffer is a buffer
weakref_is_a_buffer : IsUnlawfulOver Buffers.three_words Buffers.plan_object Buffers.begun_length (Did (Length n w, Object 2 ∷ [], Gives (Number (pos 3))))
weakref_is_a_buffer l = cc

-- Liveness

-- an execution that is oblivious of a set receives a member of it
receives_a_member : Oblivious (1 ∷ []) Messages.two_rows (receivers Messages.plan_buffer.jobs) Messages.forgot (Received 1 (Object 1) ∷ []) → ⊥
receives_a_member e = let number = e.0.0 in cc

-- what it receives is no member of an older set, though it reads it
reads_no_member : observes (1 ∷ []) (said m (Object 2)) ≡ false
reads_no_member = refl

-- a receipt observes nothing
receipt_observes : observes (1 ∷ []) (Received 1 (Object 1)) ≡ false
receipt_observes = refl

-- where a receipt assigns the one variable that holds it, the object is read no more
read_past_a_receipt : Oblivious (1 ∷ []) Messages.four_words Messages.into_m Messages.ended_buffer (said m (Object 1) ∷ Received 1 Undefined ∷ []) → ⊥
read_past_a_receipt e = let read = e.0.0 in cc

-- nor does a skip
skip_observes : observes (1 ∷ []) (Skipped 1 1) ≡ false
skip_observes = refl

-- a history empties what a variable holds, before a receipt
dishonest_before_a_receipt : Honest (receivers Messages.plan_buffer.jobs) (Received 1 Undefined ∷ Emptied (1 ∷ []) ∷ Messages.ended_buffer) → ⊥
dishonest_before_a_receipt honest = honest.0 Messages.buffer_is_live

-- or before a skip
dishonest_before_a_skip : Honest (receivers Messages.plan_buffer.jobs) (Skipped 1 1 ∷ Emptied (1 ∷ []) ∷ Messages.ended_buffer) → ⊥
dishonest_before_a_skip honest = honest.0 Messages.buffer_is_live
