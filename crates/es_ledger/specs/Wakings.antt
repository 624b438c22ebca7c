-- To believe: what is proved of sleeping and waking in every history of the ledger, a sentence each.
use Rattle.std.specs.Prelude.{ℕ, ◌≡◌, ◌≤◌, ◌==◌, ◌&&◌, ◌⊎◌, not, Bool, true, false, [], ◌∷◌, drop, filter, length, take}
use Rattle.es_event.specs.declared.ledger_event.LedgerEvent.{LedgerEvent}
use Rattle.es_event.specs.declared.ledger_event.LedgerEvent.TheVariants.{Acted}
use Rattle.es_event.specs.declared.ledger_event.Act.TheVariants.{Ended, Notified, TimedOut, Woke}
use Rattle.es_event.specs.Ledger.{Ledger}
use Rattle.es_event.specs.Waiters.{asleep, block_by, is_listed, list_at, waiters}
use Rattle.es_event.specs.LegalLedger.{LegalSoFar}

-- from l to m the first c that slept at the word left its list, which were k, and nobody left another
pub record TakesTheFirst (l m : Ledger) (b i c k : ℕ) : Type 0 where
  pub left : list_at m b i ≡ drop c (list_at l b i)
  pub many : k ≡ length (take c (list_at l b i))
  pub others : (d j : ℕ) → ((b == d) && (i == j)) ≡ false → list_at m d j ≡ list_at l d j

-- A notify takes those that sleep at its word, those first that began first, as many as it asks for at most, and nobody else.
abbrev pub ANotifyTakesTheFirst : Type 0
ANotifyTakesTheFirst =
    (n : ℕ) (l : Ledger) (a s i c k : ℕ) → LegalSoFar n (Acted a (Notified s i c k) ∷ l) → TakesTheFirst l (Acted a (Notified s i c k) ∷ l) (block_by l s) i c k

-- Who is in a WaiterList sleeps.
abbrev pub WhoIsListedSleeps : Type 0
WhoIsListedSleeps = (n : ℕ) (l : Ledger) (a : ℕ) → LegalSoFar n l → is_listed l a ≡ true → asleep l a ≡ true

-- Nobody is in two WaiterLists, or twice in one.
abbrev pub NobodyIsListedTwice : Type 0
NobodyIsListedTwice = (n : ℕ) (l : Ledger) (a : ℕ) → LegalSoFar n l → length (filter (λ w. w.agent == a) (waiters l)) ≤ 1

-- A notify that asks for as many as there are agents, or more, leaves nobody at its word.
abbrev pub ANotifyOfAllLeavesNobody : Type 0
ANotifyOfAllLeavesNobody =
    (n : ℕ) (l : Ledger) (a s i c k : ℕ) → LegalSoFar n (Acted a (Notified s i c k) ∷ l) → n ≤ c → list_at (Acted a (Notified s i c k) ∷ l) (block_by l s) i ≡ []

-- agent a sleeps, and a notify took it: it is in no list any more
abbrev pub was_taken : Ledger → ℕ → Bool
was_taken l a = asleep l a && not (is_listed l a)

-- the event is a notify, which takes agent a
abbrev pub Takes : Ledger → LedgerEvent → ℕ → Type 0
Takes l e a = ((c : ℕ) × (s : ℕ) × (i : ℕ) × (m : ℕ) × (k : ℕ) × (e ≡ Acted c (Notified s i m k))) × (was_taken (e ∷ l) a ≡ true)

-- Who is in a WaiterList stays there until a notify takes it, its time-out passes, or it ends: nothing else wakes it.
abbrev pub WhoIsListedWaitsToBeTaken : Type 0
WhoIsListedWaitsToBeTaken =
    (n : ℕ) (l : Ledger) (e : LedgerEvent) (a : ℕ) → LegalSoFar n (e ∷ l) → is_listed l a ≡ true → (is_listed (e ∷ l) a ≡ true) ⊎ Takes l e a ⊎ (e ≡ Acted a TimedOut) ⊎ (e ≡ Acted a Ended)

-- Who was taken stays so until it goes on as woken, or ends: nobody takes it again, and it never times out.
abbrev pub WhoWasTakenIsWoken : Type 0
WhoWasTakenIsWoken =
    (n : ℕ) (l : Ledger) (e : LedgerEvent) (a : ℕ) → LegalSoFar n (e ∷ l) → was_taken l a ≡ true → (was_taken (e ∷ l) a ≡ true) ⊎ (e ≡ Acted a Woke) ⊎ (e ≡ Acted a Ended)

-- And nobody goes on as woken whom no notify took.
abbrev pub WhoIsWokenWasTaken : Type 0
WhoIsWokenWasTaken = (n : ℕ) (l : Ledger) (a : ℕ) → LegalSoFar n (Acted a Woke ∷ l) → was_taken l a ≡ true
