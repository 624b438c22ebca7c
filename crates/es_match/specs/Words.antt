-- Internal: events that read or write a word with one ticket, one after another.
use Rattle.std.specs.Prelude.{ℕ, ◌≡◌, ⊤, Bool, true, false, ◌==◌, List, [], ◌∷◌}
use Rattle.es_event.specs.declared.ledger_event.LedgerEvent.{LedgerEvent}
use Rattle.es_event.specs.declared.ledger_event.LedgerEvent.TheVariants.{Accessed}
use Rattle.es_match.specs.Deeds.{Deed, Accesses}

-- the event reads or writes a word with the ticket of this serial
abbrev pub is_word_by : ℕ → LedgerEvent → Bool
is_word_by s (Accessed t i m old) = s == t
is_word_by s _ = false

-- all of the events do
abbrev pub AreWordsBy : ℕ → List LedgerEvent → Type 0
AreWordsBy s [] = ⊤
AreWordsBy s (e ∷ es) = (is_word_by s e ≡ true) × AreWordsBy s es

-- what the events are to the holder, as long as they read or write words
abbrev pub words_said : List LedgerEvent → List Deed
words_said [] = []
words_said (Accessed s i m old ∷ es) = Accesses s i m old ∷ words_said es
words_said (_ ∷ es) = []

-- the events follow one that reads or writes a word, and do the same with its ticket; there are none after any other
abbrev pub AreWordsAfter : LedgerEvent → List LedgerEvent → Type 0
AreWordsAfter (Accessed s i m old) es = AreWordsBy s es
AreWordsAfter _ es = es ≡ []
