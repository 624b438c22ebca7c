-- Two agents that share a block of two words: what they do to its words, in one order, and what is left there.
use Rattle.std.proofs.Common.{◌≡◌, true, false, refl, [], ◌∷◌, rules}
use Rattle.std.specs.List.{sum_by}
use Rattle.std.specs.Prelude.{if◌then◌else◌}
use Rattle.es_event.specs.declared.access.Change.TheVariants.{Add, Keep, Write}
use Rattle.es_event.specs.declared.ledger_event.Body.TheVariants.{Block}
use Rattle.es_event.specs.declared.ledger_event.LedgerEvent.TheVariants.{Opened, Posted, Taken, Accessed}
use Rattle.es_event.specs.Ledger.{Ledger}
use Rattle.es_event.specs.LegalLedger.{LegalLedger}
use Rattle.es_laws.specs.Memory.{FindTheNewest, WordAccess, accesses, addend, how_many, is_of, is_store, is_write, left, left_by, posts, takes}

-- the first agent stores 5 and posts its buffer; the second adds 3, and stores 9 in the other word; the first loads
abbrev shared : Ledger
shared = Accessed 1 0 Keep 8 ∷ Accessed 2 1 (Write 9) 0 ∷ Accessed 2 0 (Add 3) 5 ∷ Taken 0 1 ∷ Posted 0 1 (Block 1 2) ∷ Accessed 1 0 (Write 5) 0 ∷ Opened 1 2 1 0 ∷ []

shared_legal : LegalLedger 2 shared
shared_legal = search rules

abbrev loaded : WordAccess
loaded = record { agent = 0; block = 1; index = 0; change = Keep; old = 8 }

abbrev stored_beside : WordAccess
stored_beside = record { agent = 1; block = 1; index = 1; change = Write 9; old = 0 }

abbrev added : WordAccess
added = record { agent = 1; block = 1; index = 0; change = Add 3; old = 5 }

abbrev stored : WordAccess
stored = record { agent = 0; block = 1; index = 0; change = Write 5; old = 0 }

in_order : accesses shared ≡ loaded ∷ stored_beside ∷ added ∷ stored ∷ []
in_order = refl

each_finds : FindTheNewest (loaded ∷ stored_beside ∷ added ∷ stored ∷ [])
each_finds = (refl, (refl, (refl, (refl, tt))))

-- what is left of each access, of each word, and of a word of a block that is not there
left_there : (left_by loaded ≡ 8) × (left_by stored_beside ≡ 9) × (left_by added ≡ 8) × (left_by stored ≡ 5)
left_there = (refl, refl, refl, refl)

words_left : (left (accesses shared) 1 0 ≡ 8) × (left (accesses shared) 1 1 ≡ 9) × (left (accesses shared) 2 0 ≡ 0)
words_left = (refl, refl, refl)

writes : (is_write loaded ≡ false) × (is_write stored_beside ≡ true) × (is_write added ≡ true)
writes = (refl, refl, refl)

-- only stores are stores, and only adds add
sums : (is_store Keep ≡ false) × (is_store (Write 9) ≡ true) × (is_store (Add 3) ≡ false) × (sum_by (λ x. if is_of 1 0 x then addend x.change else 0) (accesses shared) ≡ 3)
sums = (refl, refl, refl, refl)

-- one message went from the first agent to the second, and none back
one_message : (how_many (posts 0 1) shared ≡ 1) × (how_many (takes 0 1) shared ≡ 1) × (how_many (posts 1 0) shared ≡ 0) × (how_many (takes 1 0) shared ≡ 0)
one_message = (refl, refl, refl, refl)

-- An access that finds another word than was left there, or that of another index, is in no such order

no_other_word : FindTheNewest (record { agent = 0; block = 1; index = 0; change = Keep; old = 5 } ∷ added ∷ stored ∷ []) → ⊥
no_other_word finds = let clash : 5 ≡ 8 = finds.0 in cc

no_other_index : FindTheNewest (record { agent = 0; block = 1; index = 1; change = Keep; old = 8 } ∷ added ∷ stored ∷ []) → ⊥
no_other_index finds = let clash : 8 ≡ 0 = finds.0 in cc
