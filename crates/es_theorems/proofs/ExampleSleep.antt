-- An agent that sleeps at a word and one that wakes it: worked histories of a cluster, and wrong neighbours; and what an agent is told that asks
-- to sleep.
use Rattle.std.proofs.Common.{◌≡◌, ℕ, true, false, refl, List, [], ◌∷◌, Some, None, codes, rules}
use Rattle.std.specs.Prelude.{ℤ, pos}
use Rattle.es_value.specs.declared.value.Value.TheVariants.{Number, Text, Object}
use Rattle.es_event.specs.declared.access.Change.TheVariants.{Keep as loads, Write as stores}
use Rattle.es_event.specs.declared.access.Task.{Task}
use Rattle.es_event.specs.declared.atomic.Operation.TheVariants.{Wait, Notify}
use Rattle.es_event.specs.declared.command.Command.{Command}
use Rattle.es_event.specs.declared.command.Command.TheVariants.{SharedArrayBuffer, Post}
use Rattle.es_event.specs.declared.event.Answer.TheVariants.{Nothing, Gives}
use Rattle.es_event.specs.declared.event.Event.{Event}
use Rattle.es_event.specs.declared.event.Event.TheVariants.{JobBegun, Received, Did, JobEnded, Closed}
use Rattle.es_event.specs.declared.ledger_event.Body.TheVariants.{Block}
use Rattle.es_event.specs.declared.ledger_event.LedgerEvent.TheVariants.{Opened, Posted, Taken, Spent, Accessed, Acted}
use Rattle.es_event.specs.declared.ledger_event.Act.TheVariants.{Waiting, Ended, Slept, Notified, Woke, TimedOut}
use Rattle.es_event.specs.declared.operand.Operand.{Operand}
use Rattle.es_event.specs.Commands.{atomic}
use Rattle.es_event.specs.History.{History}
use Rattle.es_event.specs.Ledger.{Ledger}
use Rattle.es_event.specs.LegalLedger.{LegalLedger}
use Rattle.es_event.specs.Rows.{row}
use Rattle.es_ledger.specs.Sleeps.{laid_down, rested, roused}
use Rattle.es_ledger.specs.declared.turn.Turn.TheVariants.{Ready, Stay, Skip}
use Rattle.es_event.specs.Waiters.{list_at, waiter}
use Rattle.es_match.specs.Cluster.{IsCluster}
use Rattle.es_match.specs.Deeds.{sleep_of}
use Rattle.es_match.proofs.Examples.{impatient, two_agents, untold}
use Rattle.es_rules.specs.Needs.{asks_ledger, for_word}
use Rattle.es_cluster.specs.Moves.{goes_on_by}

abbrev b : List ℕ
b = codes "b"

abbrev x : List ℕ
x = codes "x"

abbrev wait : ℤ → Command
wait n = atomic b (Operand.Number (pos 0)) (Wait x (Operand.Number n))

abbrev notify : Command
notify = atomic b (Operand.Number (pos 0)) (Notify x None)

-- One sleeps, the other one wakes it

abbrev made : History
made = Did (Post 1 b, Object 1 ∷ [], Nothing) ∷ Did (SharedArrayBuffer b 4, [], Gives (Object 1)) ∷ JobBegun 1 ∷ []

abbrev ends_with : Event → History
ends_with e = Closed ∷ JobEnded ∷ e ∷ made

abbrev told : ℤ → List ℕ → Event
told n text = Did (wait n, Object 1 ∷ [], Gives (Text text))

abbrev sleeper : History
sleeper = ends_with (told (pos 0) (codes "ok"))

abbrev waker_of : ℕ → History
waker_of k = Closed ∷ JobEnded ∷ Did (notify, Object 1 ∷ [], Gives (Number (pos k))) ∷ JobBegun 1 ∷ Received 0 (Object 1) ∷ []

abbrev waker : History
waker = waker_of 1

abbrev posted : Ledger
posted = Posted 0 1 (Block 1 2) ∷ Opened 1 4 1 0 ∷ []

abbrev slept : Ledger
slept = Taken 0 1 ∷ Acted 0 (Slept 1 0 0) ∷ posted

abbrev woken : Ledger
woken = Acted 0 Woke ∷ Acted 1 (Notified 2 0 8 1) ∷ slept

abbrev over : Ledger → Ledger
over l = Acted 1 Ended ∷ Spent 2 ∷ Acted 0 Ended ∷ Spent 1 ∷ l

woken_legal : LegalLedger 2 (over woken)
woken_legal = search rules

pub a_waking : IsCluster (sleeper ∷ waker ∷ []) (over woken)
a_waking = two_agents sleeper waker (over woken) refl refl refl

No : List History → Ledger → Type 0
No hs l = IsCluster hs l → ⊥

abbrev both : List History
both = sleeper ∷ waker ∷ []

-- its time-out passed, or it read the word, where it says that it was woken
not_timed_out : No both (over (Acted 0 TimedOut ∷ Acted 1 (Notified 2 0 8 1) ∷ slept))
unfolding No
not_timed_out = untold both _ 0 refl

not_read : No both (over (Acted 1 (Notified 2 0 8 1) ∷ Taken 0 1 ∷ Accessed 1 0 loads 0 ∷ posted))
unfolding No
not_read = untold both _ 0 refl

-- it never began to sleep, or at another index, or with another word
never_slept : No both (over (Acted 0 Woke ∷ Acted 1 (Notified 2 0 8 1) ∷ Taken 0 1 ∷ posted))
unfolding No
never_slept = untold both _ 0 refl

slept_elsewhere : No both (over (Acted 0 Woke ∷ Acted 1 (Notified 2 0 8 1) ∷ Taken 0 1 ∷ Acted 0 (Slept 1 1 0) ∷ posted))
unfolding No
slept_elsewhere = untold both _ 0 refl

slept_for_another : No both (over (Acted 0 Woke ∷ Acted 1 (Notified 2 0 8 1) ∷ Taken 0 1 ∷ Acted 0 (Slept 1 0 7) ∷ posted))
unfolding No
slept_for_another = untold both _ 0 refl

-- it slept at a word of another buffer of its own
abbrev two_buffers : History
two_buffers = Closed ∷ JobEnded ∷ told (pos 0) (codes "ok") ∷ Did (SharedArrayBuffer x 1, [], Gives (Object 2)) ∷ made

abbrev slept_by : ℕ → Ledger
slept_by s = Acted 1 Ended ∷ Spent 2 ∷ Acted 0 Ended ∷ Spent 3 ∷ Spent 1 ∷ Acted 0 Woke ∷ Acted 1 (Notified 2 0 8 1) ∷ Taken 0 1 ∷ Acted 0 (Slept s 0 0) ∷ Opened 2 1 3 0 ∷ posted

pub by_its_ticket : IsCluster (two_buffers ∷ waker ∷ []) (slept_by 1)
by_its_ticket = two_agents two_buffers waker (slept_by 1) refl refl refl

by_another_ticket : No (two_buffers ∷ waker ∷ []) (slept_by 3)
unfolding No
by_another_ticket = untold (two_buffers ∷ waker ∷ []) _ 0 refl

-- it went on twice
woken_twice : No both (over (Acted 0 Woke ∷ woken))
unfolding No
woken_twice = untold both _ 0 refl

-- it gave up its ticket asleep
gave_up_asleep : No both (Acted 1 Ended ∷ Spent 2 ∷ Acted 0 Ended ∷ Acted 0 Woke ∷ Acted 1 (Notified 2 0 8 1) ∷ Spent 1 ∷ slept)
unfolding No
gave_up_asleep = impatient both _ refl

-- the other one asked for fewer, at another index, or took nobody where it says one
fewer_asked : No both (over (Acted 0 Woke ∷ Acted 1 (Notified 2 0 7 1) ∷ slept))
unfolding No
fewer_asked = untold both _ 1 refl

notified_elsewhere : No both (over (Acted 0 Woke ∷ Acted 1 (Notified 2 1 8 1) ∷ slept))
unfolding No
notified_elsewhere = untold both _ 1 refl

took_nobody : No both (over (Acted 0 Woke ∷ Acted 1 (Notified 2 0 8 0) ∷ slept))
unfolding No
took_nobody = untold both _ 1 refl

-- Nobody wakes it

abbrev late : History
late = ends_with (told (pos 0) (codes "timed-out"))

abbrev timed_out : Ledger
timed_out = Acted 0 Ended ∷ Spent 1 ∷ Acted 0 TimedOut ∷ Acted 1 Ended ∷ Spent 2 ∷ Acted 1 (Notified 2 1 8 0) ∷ slept

abbrev passer : History
passer = Closed ∷ JobEnded ∷ Did (atomic b (Operand.Number (pos 1)) (Notify x None), Object 1 ∷ [], Gives (Number (pos 0))) ∷ JobBegun 1 ∷ Received 0 (Object 1) ∷ []

timed_out_legal : LegalLedger 2 timed_out
timed_out_legal = search rules

pub a_time_out : IsCluster (late ∷ passer ∷ []) timed_out
a_time_out = two_agents late passer timed_out refl refl refl

not_woken : No (sleeper ∷ passer ∷ []) timed_out
unfolding No
not_woken = untold (sleeper ∷ passer ∷ []) _ 0 refl

-- Another word is there

abbrev misser : History
misser = ends_with (told (pos 5) (codes "not-equal"))

abbrev missed : ℕ → Ledger
missed old = over (Acted 1 (Notified 2 0 8 0) ∷ Taken 0 1 ∷ Accessed 1 0 loads old ∷ posted)

missed_legal : LegalLedger 2 (missed 0)
missed_legal = search rules

pub a_miss : IsCluster (misser ∷ waker_of 0 ∷ []) (missed 0)
a_miss = two_agents misser (waker_of 0) (missed 0) refl refl refl

-- the word is the one that it waits for, or it writes it
no_miss : No (misser ∷ waker_of 0 ∷ []) (missed 5)
unfolding No
no_miss = untold (misser ∷ waker_of 0 ∷ []) _ 0 refl

no_write : No (misser ∷ waker_of 0 ∷ []) (over (Acted 1 (Notified 2 0 8 0) ∷ Taken 0 1 ∷ Accessed 1 0 (stores 0) 0 ∷ posted))
unfolding No
no_write = untold (misser ∷ waker_of 0 ∷ []) _ 0 refl

-- Which sleep it is, and which list

its_sleep : sleep_of (Acted 0 (Slept 1 2 7) ∷ posted) 0 ≡ Some (record { serial = 1; index = 2; word = 7 })
its_sleep = refl

none_after : (sleep_of woken 0 ≡ None) × (sleep_of (Acted 0 TimedOut ∷ slept) 0 ≡ None) × (sleep_of slept 1 ≡ None)
none_after = (refl, refl, refl)

in_its_list : (list_at slept 1 0 ≡ waiter 0 1 0 ∷ []) × (list_at slept 1 1 ≡ []) × (list_at slept 2 0 ≡ [])
in_its_list = (refl, refl, refl)

-- What one is told that asks to sleep

-- it lies down, as the other one can go on
lies_down : rested posted 2 0 (row 1 1 4) 0 0 ≡ (Some Stay, Acted 0 (Slept 1 0 0) ∷ posted)
lies_down = refl

another_word : rested posted 2 0 (row 1 1 4) 0 5 ≡ (None, Accessed 1 0 loads 0 ∷ posted)
another_word = refl

-- asked again it sleeps on, and nothing new is recorded
sleeps_on : rested slept 2 0 (row 1 1 4) 0 0 ≡ (Some Stay, slept)
sleeps_on = refl

goes_on_taken : rested (Acted 1 (Notified 2 0 8 1) ∷ slept) 2 0 (row 1 1 4) 0 0 ≡ (Some Ready, woken)
goes_on_taken = refl

-- where the other one has ended its time-out passes, also at once
times_out : rested (Acted 1 Ended ∷ slept) 2 0 (row 1 1 4) 0 0 ≡ (Some Skip, Acted 0 TimedOut ∷ Acted 1 Ended ∷ slept)
times_out = refl

at_once : rested (Acted 1 Ended ∷ posted) 2 0 (row 1 1 4) 0 0 ≡ (Some Skip, Acted 0 TimedOut ∷ Acted 0 (Slept 1 0 0) ∷ Acted 1 Ended ∷ posted)
at_once = refl

-- the lowest goes first
not_the_lowest : roused (Acted 1 (Slept 2 0 0) ∷ slept) 2 1 ≡ (Stay, Acted 1 (Slept 2 0 0) ∷ slept)
not_the_lowest = refl

the_lowest : roused (Acted 1 (Slept 2 0 0) ∷ slept) 2 0 ≡ (Skip, Acted 0 TimedOut ∷ Acted 1 (Slept 2 0 0) ∷ slept)
the_lowest = refl

-- one that waits for a message does not sleep besides
waits_already : rested (Acted 0 (Waiting 1) ∷ posted) 2 0 (row 1 1 4) 0 0 ≡ (Some Stay, Acted 0 (Waiting 1) ∷ posted)
waits_already = refl

laid : laid_down posted 0 (row 1 1 4) 0 0 ≡ (true, Acted 0 (Slept 1 0 0) ∷ posted)
laid = refl

not_laid : laid_down posted 0 (row 1 1 4) 0 1 ≡ (false, Accessed 1 0 loads 0 ∷ posted)
not_laid = refl

-- Who can move: one that sleeps once it was taken, and one that asks to sleep and has not yet

sleeping_stays : goes_on_by slept 0 (asks_ledger (for_word 1 0 (Task.Sleep 0))) ≡ false
sleeping_stays = refl

taken_goes : goes_on_by (Acted 1 (Notified 2 0 8 1) ∷ slept) 0 (asks_ledger (for_word 1 0 (Task.Sleep 0))) ≡ true
taken_goes = refl

asking_goes : goes_on_by posted 0 (asks_ledger (for_word 1 0 (Task.Sleep 0))) ≡ true
asking_goes = refl
