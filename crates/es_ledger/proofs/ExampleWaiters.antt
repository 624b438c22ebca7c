-- Three agents with tickets of one block: two sleep at its first word, and the third takes one of them; and what no ledger allows.
use Rattle.std.proofs.Common.{◌≡◌, arith, true, false, refl, [], ◌∷◌, rules}
use Rattle.es_event.specs.declared.access.Change.TheVariants.{Write as stores}
use Rattle.es_event.specs.declared.ledger_event.Body.TheVariants.{Block}
use Rattle.es_event.specs.declared.ledger_event.LedgerEvent.TheVariants.{Opened, Posted, Taken, Spent, Accessed, Acted}
use Rattle.es_event.specs.declared.ledger_event.Act.TheVariants.{Waiting, Ended, Slept, Notified, Woke, TimedOut}
use Rattle.es_event.specs.Ledger.{Ledger, count}
use Rattle.es_event.specs.Waiters.{asleep, list_at, waiter}
use Rattle.es_event.specs.LegalLedger.{MayCome, LegalLedger, is_stuck}

abbrev pub shared : Ledger
shared = Taken 0 2 ∷ Taken 0 1 ∷ Posted 0 2 (Block 1 3) ∷ Posted 0 1 (Block 1 2) ∷ Opened 1 2 1 0 ∷ []

abbrev pub two_sleep : Ledger
two_sleep = Acted 0 (Slept 1 0 0) ∷ Acted 1 (Slept 2 0 0) ∷ shared

-- who began first stands first, by whatever ticket
pub in_order : list_at two_sleep 1 0 ≡ waiter 1 1 0 ∷ waiter 0 1 0 ∷ []
in_order = refl

pub no_other_word : list_at two_sleep 1 1 ≡ []
no_other_word = refl

pub both_stuck : is_stuck two_sleep 0 ≡ true
both_stuck = refl

-- One is taken, which slept first

abbrev pub one_taken : Ledger
one_taken = Acted 2 (Notified 3 0 1 1) ∷ two_sleep

pub second_is_left : list_at one_taken 1 0 ≡ waiter 0 1 0 ∷ []
second_is_left = refl

pub still_asleep : asleep one_taken 1 ≡ true
still_asleep = refl

pub can_go_on : is_stuck one_taken 1 ≡ false
can_go_on = refl

abbrev pub one_woke : Ledger
one_woke = Acted 1 Woke ∷ one_taken

pub awake : asleep one_woke 1 ≡ false
awake = refl

-- the other is not taken by a word that is written, nor by a message; it times out once no agent can go on
abbrev pub others_ended : Ledger
others_ended = Acted 2 Ended ∷ Acted 1 Ended ∷ Spent 3 ∷ Spent 2 ∷ Accessed 3 0 (stores 7) 0 ∷ one_woke

pub legal_timed_out : LegalLedger 3 (Acted 0 TimedOut ∷ others_ended)
legal_timed_out = search rules

pub in_no_list : list_at (Acted 0 TimedOut ∷ others_ended) 1 0 ≡ []
in_no_list = refl

-- its block is not released before
pub held_by_a_sleeper : count others_ended 1 ≡ 1
held_by_a_sleeper = refl

-- A notify at another word takes nobody, and one of count 0 neither; one of 8 takes both

pub takes_nobody_there : list_at (Acted 2 (Notified 3 1 8 0) ∷ two_sleep) 1 0 ≡ list_at two_sleep 1 0
takes_nobody_there = refl

pub takes_none : list_at (Acted 2 (Notified 3 0 0 0) ∷ two_sleep) 1 0 ≡ list_at two_sleep 1 0
takes_none = refl

pub takes_both : list_at (Acted 2 (Notified 3 0 8 2) ∷ two_sleep) 1 0 ≡ []
takes_both = refl

-- who has ended is in no list, and sleeps no more

pub left_by_its_end : list_at (Acted 1 Ended ∷ two_sleep) 1 0 ≡ waiter 0 1 0 ∷ []
left_by_its_end = refl

pub ended_awake : asleep (Acted 1 Ended ∷ two_sleep) 1 ≡ false
ended_awake = refl

-- Wrong neighbours

-- an agent sleeps that saw another word than the newest
sleeps_on_an_old_word : MayCome 3 (Accessed 3 0 (stores 7) 0 ∷ shared) (Acted 1 (Slept 2 0 0)) → ⊥
sleeps_on_an_old_word m = cc

-- where its block has no word, or by another's ticket
sleeps_outside : MayCome 3 shared (Acted 1 (Slept 2 2 0)) → ⊥
sleeps_outside m = absurd (omega (arith, m.0.1))

sleeps_by_anothers_ticket : MayCome 3 shared (Acted 1 (Slept 3 0 0)) → ⊥
sleeps_by_anothers_ticket m = cc

-- while it sleeps, while it waits, or after its end
sleeps_asleep : MayCome 3 two_sleep (Acted 0 (Slept 1 0 0)) → ⊥
sleeps_asleep m = cc

sleeps_while_it_waits : MayCome 3 (Acted 1 (Waiting 2) ∷ shared) (Acted 1 (Slept 2 0 0)) → ⊥
sleeps_while_it_waits m = cc

sleeps_after_its_end : MayCome 3 (Acted 1 Ended ∷ shared) (Acted 1 (Slept 2 0 0)) → ⊥
sleeps_after_its_end m = cc

-- a sleeper waits for a message
waits_asleep : MayCome 3 two_sleep (Acted 0 (Waiting 1)) → ⊥
waits_asleep m = cc

-- a notify tells another number than it took
takes_more : MayCome 3 two_sleep (Acted 2 (Notified 3 0 1 2)) → ⊥
takes_more m = cc

takes_less : MayCome 3 two_sleep (Acted 2 (Notified 3 0 8 1)) → ⊥
takes_less m = cc

-- an agent wakes that was not taken, twice, or that did not sleep
wakes_untaken : MayCome 3 one_taken (Acted 0 Woke) → ⊥
wakes_untaken m = cc

wakes_twice : MayCome 3 one_woke (Acted 1 Woke) → ⊥
wakes_twice m = cc

wakes_awake : MayCome 3 one_taken (Acted 2 Woke) → ⊥
wakes_awake m = cc

-- who was taken times out; or who was not, while another can go on
times_out_taken : MayCome 3 one_taken (Acted 1 TimedOut) → ⊥
times_out_taken m = cc

times_out_too_early : MayCome 3 two_sleep (Acted 0 TimedOut) → ⊥
times_out_too_early m = cc

-- or the higher of two
times_out_the_higher : MayCome 3 (Acted 2 Ended ∷ two_sleep) (Acted 1 TimedOut) → ⊥
times_out_the_higher m = cc

pub times_out_the_lower : MayCome 3 (Acted 2 Ended ∷ two_sleep) (Acted 0 TimedOut)
times_out_the_lower = (refl, refl)
