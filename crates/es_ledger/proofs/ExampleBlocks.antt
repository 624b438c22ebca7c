-- One agent opens blocks, reads and writes their words, and spends its tickets; and what no ledger allows.
use Rattle.std.proofs.Common.{◌≡◌, arith, true, false, refl, [], ◌∷◌, Some, rules}
use Rattle.es_event.specs.declared.access.Change.TheVariants.{Keep as loads, Write as stores, Add as adds}
use Rattle.es_event.specs.declared.ledger_event.LedgerEvent.TheVariants.{Opened, Spent, Accessed, Acted}
use Rattle.es_event.specs.declared.ledger_event.Act.TheVariants.{Ended}
use Rattle.es_event.specs.Rows.{row, held, held_by}
use Rattle.es_event.specs.declared.row.Holder.TheVariants.{Nobody}
use Rattle.es_event.specs.Ledger.{Ledger, table, size, opened, word, count, is_released, rows, holder_of}
use Rattle.es_event.specs.LegalLedger.{MayCome, LegalLedger}

-- The newest event first: block 1 has two words, and agent 0 the one ticket of it

abbrev pub opened_one : Ledger
opened_one = Opened 1 2 1 0 ∷ []

abbrev pub stored : Ledger
stored = Accessed 1 1 (stores 7) 0 ∷ opened_one

abbrev pub added : Ledger
added = Accessed 1 1 (adds 4294967295) 7 ∷ Accessed 1 1 loads 7 ∷ stored

abbrev pub loaded : Ledger
loaded = Accessed 1 0 loads 0 ∷ Accessed 1 1 loads 6 ∷ added

abbrev pub spent : Ledger
spent = Spent 1 ∷ loaded

-- and block 2 has none
abbrev pub opened_two : Ledger
opened_two = Opened 2 0 2 0 ∷ spent

abbrev pub ended_all : Ledger
ended_all = Acted 0 Ended ∷ Spent 2 ∷ opened_two

pub legal_one : LegalLedger 1 ended_all
legal_one = search rules

-- What it says

pub word_stored : word stored 1 1 ≡ 7
word_stored = refl

pub sum_wraps : word added 1 1 ≡ 6
sum_wraps = refl

pub first_word : word added 1 0 ≡ 0
first_word = refl

pub one_ticket : count loaded 1 ≡ 1
one_ticket = refl

pub holder : holder_of loaded 1 ≡ Some (0, row 1 1 2)
holder = refl

pub no_ticket : count spent 1 ≡ 0
no_ticket = refl

pub not_released_before : is_released loaded 1 ≡ false
not_released_before = refl

pub released_afterwards : is_released spent 1 ≡ true
released_afterwards = refl

-- its line stays, and no agent has it; the words of each block are as many as they were made
pub line_stays : table spent ≡ held_by Nobody (row 1 1 2) ∷ []
line_stays = refl

pub held_no_more : held 0 (table spent) ≡ []
held_no_more = refl

pub sizes : (size opened_two 1 ≡ 2) × (size opened_two 2 ≡ 0) × (size opened_two 3 ≡ 0)
sizes = (refl, refl, refl)

-- what was not made is not released
pub not_made : is_released spent 2 ≡ false
not_made = refl

pub two_blocks : opened opened_two ≡ 2
two_blocks = refl

pub second_ticket : rows opened_two ≡ row 2 2 0 ∷ []
second_ticket = refl

-- Wrong neighbours

-- a serial is spent twice
spends_twice : MayCome 1 spent (Spent 1) → ⊥
spends_twice m = cc

-- a block that was released is read
reads_the_released : MayCome 1 spent (Accessed 1 1 loads 6) → ⊥
reads_the_released m = m

-- a word is read that was never stored
invents_a_word : MayCome 1 stored (Accessed 1 1 loads 8) → ⊥
invents_a_word m = cc

-- or that is above the greatest word
sum_not_taken_modulo : MayCome 1 added (Accessed 1 1 loads 4294967302) → ⊥
sum_not_taken_modulo m = absurd (omega (arith, m.1))

stores_too_much : MayCome 1 stored (Accessed 1 0 (stores 4294967296) 0) → ⊥
stores_too_much m = absurd (omega (arith, m.1))

-- or that was overwritten by a sum
reads_an_old_word : MayCome 1 added (Accessed 1 1 loads 7) → ⊥
reads_an_old_word m = cc

-- an index is the number of words
index_at_the_end : MayCome 1 stored (Accessed 1 2 (stores 7) 0) → ⊥
index_at_the_end m = absurd (omega (arith, m.0))

-- a block without words is read
reads_no_word : MayCome 1 opened_two (Accessed 2 0 loads 0) → ⊥
reads_no_word m = absurd (omega (arith, m.0))

-- the addend is added to another word than the one that is there
adds_to_another : MayCome 1 stored (Accessed 1 1 (adds 1) 8) → ⊥
adds_to_another m = cc

-- a block or a ticket is numbered anew, or one is passed over
block_again : MayCome 1 spent (Opened 1 0 2 0) → ⊥
block_again m = cc

serial_again : MayCome 1 spent (Opened 2 0 1 0) → ⊥
serial_again m = cc

serial_passed_over : MayCome 1 spent (Opened 2 0 3 0) → ⊥
serial_passed_over m = cc

-- an agent that is none opens a block
stranger : MayCome 1 spent (Opened 2 0 2 1) → ⊥
stranger m = absurd (omega (arith, m.2))

-- an agent ends twice
ends_twice : MayCome 1 ended_all (Acted 0 Ended) → ⊥
ends_twice m = cc
