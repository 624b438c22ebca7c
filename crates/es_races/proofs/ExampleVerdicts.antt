-- Two agents that share a block of two words: what is told of the races in their histories.
use Rattle.std.proofs.Common.{◌≡◌, false, refl, [], ◌∷◌, Some, None, rules}
use Rattle.std.proofs.lemmas.Bool.{false≢true}
use Rattle.es_value.specs.declared.value.Value.TheVariants.{Undefined}
use Rattle.es_event.specs.declared.access.Change.TheVariants.{Keep, Write}
use Rattle.es_event.specs.declared.ledger_event.Body.TheVariants.{Block, Plain}
use Rattle.es_event.specs.declared.ledger_event.LedgerEvent.{LedgerEvent}
use Rattle.es_event.specs.declared.ledger_event.LedgerEvent.TheVariants.{Accessed, Opened, Posted, Taken}
use Rattle.es_event.specs.Ledger.{Ledger}
use Rattle.es_event.specs.LegalLedger.{LegalLedger}
use Rattle.es_races.specs.declared.race.Race.{Race}
use Rattle.es_races.specs.Verdict.{IsVerdict, race_at}

-- the first agent opens a block, and posts it: it has ticket 1, and the second ticket 2
abbrev sharing : Ledger
sharing = Taken 0 1 ∷ Posted 0 1 (Block 1 2) ∷ Opened 1 2 1 0 ∷ []

abbrev store : LedgerEvent
store = Accessed 1 0 (Write 5) 0

abbrev load : LedgerEvent
load = Accessed 2 0 Keep 5

-- A store and a load

abbrev racing : Ledger
racing = load ∷ store ∷ sharing

racing_legal : LegalLedger 2 racing
racing_legal = search rules

abbrev first_ones : Race
first_ones = record { earlier = record { agent = 0; number = 0 }; later = record { agent = 1; number = 0 } }

they_race : IsVerdict racing (Some first_ones)
they_race = refl

not_none : IsVerdict racing None → ⊥
not_none told = false≢true told

-- with a message between them

abbrev ordered : Ledger
ordered = load ∷ Taken 0 1 ∷ Posted 0 1 (Plain Undefined) ∷ store ∷ sharing

ordered_legal : LegalLedger 2 ordered
ordered_legal = search rules

none_race : IsVerdict ordered None
none_race = refl

no_longer : IsVerdict ordered (Some first_ones) → ⊥
no_longer told = false≢true told

-- Which of many

-- the first agent loads the other word and stores, and the second loads the other word twice before it loads this one
abbrev many : Ledger
many = load ∷ Accessed 2 1 Keep 0 ∷ Accessed 2 1 Keep 0 ∷ store ∷ Accessed 1 1 Keep 0 ∷ sharing

many_legal : LegalLedger 2 many
many_legal = search rules

these_race : IsVerdict many (Some (record { earlier = record { agent = 0; number = 1 }; later = record { agent = 1; number = 2 } }))
these_race = refl

-- and no others: two that are of one word are named by both marks
others_do_not : (race_at many (0, 0) (1, 2) ≡ false) × (race_at many (0, 1) (1, 1) ≡ false) × (race_at many (0, 1) (0, 1) ≡ false) × (race_at many (0, 2) (1, 2) ≡ false) × (race_at many (0, 1) (2, 2) ≡ false)
others_do_not = (refl, refl, refl, refl, refl)

-- the one that came first is named first
turned : race_at many (1, 2) (0, 1) ≡ false
turned = refl

-- where nothing happened nothing races
nothing : IsVerdict [] None
nothing = refl
