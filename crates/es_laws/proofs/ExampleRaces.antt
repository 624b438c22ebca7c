-- Two agents that share a block of two words, and a third: which of their accesses a message orders, and which race.
use Rattle.std.proofs.Common.{◌≡◌, true, false, refl, [], ◌∷◌, ◌++◌, rules}
use Rattle.es_value.specs.declared.value.Value.TheVariants.{Undefined}
use Rattle.es_event.specs.declared.access.Change.TheVariants.{Add, Keep, Write}
use Rattle.es_event.specs.declared.ledger_event.Body.TheVariants.{Block, Plain}
use Rattle.es_event.specs.declared.ledger_event.LedgerEvent.{LedgerEvent}
use Rattle.es_event.specs.declared.ledger_event.LedgerEvent.TheVariants.{Opened, Posted, Taken, Spent, Accessed, Drained, Acted}
use Rattle.es_event.specs.declared.ledger_event.Act.TheVariants.{Waiting, Passed, Ended}
use Rattle.es_event.specs.Ledger.{Ledger}
use Rattle.es_event.specs.LegalLedger.{LegalLedger}
use Rattle.es_laws.specs.Memory.{WordAccess}
use Rattle.es_laws.specs.Races.{Mark, MarkedAccess, conflict, first_of, happens_before, has_no_race, is_mark, known, mark_of, marked, race}

-- the first agent opens a block, and posts it: it has ticket 1, and the second ticket 2
abbrev sharing : Ledger
sharing = Taken 0 1 ∷ Posted 0 1 (Block 1 2) ∷ Opened 1 2 1 0 ∷ []

abbrev word : LedgerEvent
word = Posted 0 1 (Plain Undefined)

abbrev store : LedgerEvent
store = Accessed 1 0 (Write 5) 0

abbrev load : LedgerEvent
load = Accessed 2 0 Keep 5

-- A store and a load

abbrev racing : Ledger
racing = load ∷ store ∷ sharing

racing_legal : LegalLedger 2 racing
racing_legal = search rules

they_race : has_no_race racing ≡ false
they_race = refl

-- in either order
load_first : has_no_race (Accessed 1 0 (Write 5) 0 ∷ Accessed 2 0 Keep 0 ∷ sharing) ≡ false
load_first = refl

-- with a message between them they do not
abbrev ordered : Ledger
ordered = load ∷ Taken 0 1 ∷ word ∷ store ∷ sharing

ordered_legal : LegalLedger 2 ordered
ordered_legal = search rules

a_message_orders : has_no_race ordered ≡ true
a_message_orders = refl

-- one that was not taken yet, or goes the other way, or was posted before the store, does not order them
not_taken : has_no_race (load ∷ word ∷ store ∷ sharing) ≡ false
not_taken = refl

other_way : has_no_race (load ∷ Taken 1 0 ∷ Posted 1 0 (Plain Undefined) ∷ store ∷ sharing) ≡ false
other_way = refl

abbrev too_early : Ledger
too_early = load ∷ Taken 0 1 ∷ store ∷ word ∷ sharing

early_legal : LegalLedger 2 too_early
early_legal = search rules

posted_before : has_no_race too_early ≡ false
posted_before = refl

-- of two, the second tells more
abbrev one_taken : Ledger
one_taken = load ∷ Taken 0 1 ∷ word ∷ store ∷ word ∷ sharing

first_tells_less : has_no_race one_taken ≡ false
first_tells_less = refl

second_tells_more : has_no_race (load ∷ Taken 0 1 ∷ Taken 0 1 ∷ word ∷ store ∷ word ∷ sharing) ≡ true
second_tells_more = refl

-- What races

two_loads : has_no_race (Accessed 2 0 Keep 0 ∷ Accessed 1 0 Keep 0 ∷ sharing) ≡ true
two_loads = refl

two_stores : has_no_race (Accessed 2 0 (Write 7) 5 ∷ store ∷ sharing) ≡ false
two_stores = refl

adds_race : has_no_race (Accessed 2 0 (Add 1) 1 ∷ Accessed 1 0 (Add 1) 0 ∷ sharing) ≡ false
adds_race = refl

-- two words, or words of two blocks, or one agent's accesses, do not
other_index : has_no_race (Accessed 2 1 Keep 0 ∷ store ∷ sharing) ≡ true
other_index = refl

other_block : has_no_race (Accessed 3 0 (Write 1) 0 ∷ store ∷ Opened 2 1 3 1 ∷ sharing) ≡ true
other_block = refl

its_own : has_no_race (Accessed 1 0 Keep 5 ∷ store ∷ sharing) ≡ true
its_own = refl

none : has_no_race [] ≡ true
none = refl

-- one race is enough, whichever it is
one_of_many : has_no_race (Accessed 2 1 (Write 1) 0 ∷ Accessed 1 1 Keep 0 ∷ ordered) ≡ false
one_of_many = refl

-- Through a third agent

abbrev passed_on : Ledger
passed_on = load ∷ Taken 2 1 ∷ Posted 2 1 (Plain Undefined) ∷ Taken 0 2 ∷ Posted 0 2 (Plain Undefined) ∷ store ∷ sharing

passed_legal : LegalLedger 3 passed_on
passed_legal = search rules

through_another : has_no_race passed_on ≡ true
through_another = refl

-- which knew of nothing when it posted
passed_too_early : has_no_race (load ∷ Taken 2 1 ∷ Taken 0 2 ∷ Posted 2 1 (Plain Undefined) ∷ Posted 0 2 (Plain Undefined) ∷ store ∷ sharing) ≡ false
passed_too_early = refl

-- or did not pass it on
not_passed : has_no_race (load ∷ Taken 0 2 ∷ Posted 0 2 (Plain Undefined) ∷ store ∷ sharing) ≡ false
not_passed = refl

-- What is drained

-- it tells nobody, and lies there no more
drained_tells_nobody : has_no_race (load ∷ Drained 0 1 ∷ word ∷ store ∷ sharing) ≡ false
drained_tells_nobody = refl

next_after_drained : has_no_race (load ∷ Taken 0 1 ∷ Drained 0 1 ∷ word ∷ store ∷ word ∷ sharing) ≡ true
next_after_drained = refl

-- Whatever else happens, they know it still

abbrev others : Ledger
others = Drained 1 0 ∷ Acted 2 Ended ∷ Acted 1 (Passed 2) ∷ Acted 1 (Waiting 2) ∷ Spent 3 ∷ Accessed 3 0 Keep 0 ∷ Taken 2 0 ∷ Posted 2 0 (Plain Undefined) ∷ Posted 1 0 (Plain Undefined) ∷ Opened 2 1 3 0 ∷ []

knows_still : has_no_race (load ∷ (others ++ Taken 0 1 ∷ (others ++ word ∷ (others ++ store ∷ sharing)))) ≡ true
knows_still = refl

-- Marks

-- an access is told by its agent, and by how many that agent made before it
abbrev stored : WordAccess
stored = record { agent = 0; block = 1; index = 0; change = Write 5; old = 0 }

abbrev loaded : WordAccess
loaded = record { agent = 1; block = 1; index = 0; change = Keep; old = 5 }

marks : (◌≡◌ {A = Mark} (mark_of [] stored) (0, 0)) × (◌≡◌ {A = Mark} (mark_of (loaded ∷ stored ∷ []) stored) (0, 1)) × (◌≡◌ {A = Mark} (mark_of (stored ∷ stored ∷ []) loaded) (1, 0))
marks = (refl, refl, refl)

same_marks : (is_mark (0, 1) (0, 1) ≡ true) × (is_mark (0, 1) (0, 2) ≡ false) × (is_mark (0, 1) (1, 1) ≡ false)
same_marks = (refl, refl, refl)

-- each with what its agent knew, the newest first
abbrev marked_store : MarkedAccess
marked_store = record { access = stored; mark = (0, 0); knew = [] }

abbrev marked_load : MarkedAccess
marked_load = record { access = loaded; mark = (1, 0); knew = (0, 0) ∷ [] }

all_marked : marked ordered ≡ marked_load ∷ marked_store ∷ []
all_marked = refl

in_this_order : (happens_before marked_store marked_load ≡ true) × (happens_before marked_load marked_store ≡ false) × (race marked_store marked_load ≡ false) × (conflict stored loaded ≡ true)
in_this_order = (refl, refl, refl, refl)

-- what agents know, and what lies in the ports
abbrev written_twice : Ledger
written_twice = Accessed 1 1 Keep 0 ∷ word ∷ store ∷ sharing

they_know : ((known written_twice).knows 0 ≡ (0, 1) ∷ (0, 0) ∷ []) × ((known written_twice).knows 1 ≡ []) × ((known ordered).knows 1 ≡ (1, 0) ∷ (0, 0) ∷ [])
they_know = (refl, refl, refl)

they_tell : ((known written_twice).carried 0 1 ≡ ((0, 0) ∷ []) ∷ []) × ((known written_twice).carried 1 0 ≡ []) × ((known written_twice).carried 0 2 ≡ []) × ((known ordered).carried 0 1 ≡ [])
they_tell = (refl, refl, refl, refl)

none_told : first_of [] ≡ []
none_told = refl
