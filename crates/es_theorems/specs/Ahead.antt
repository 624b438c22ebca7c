-- Internal: events that may come after a ledger's history, and what they are to each agent.
use Rattle.std.specs.Prelude.{ℕ, ◌≡◌, ◌<◌, ⊤, true, false, List, [], ◌∷◌, ◌++◌, Some, None, length}
use Rattle.es_event.specs.declared.ledger_event.LedgerEvent.{LedgerEvent}
use Rattle.es_event.specs.Ledger.{Ledger, ended, waits}
use Rattle.es_event.specs.Waiters.{asleep}
use Rattle.es_event.specs.LegalLedger.{ComesNext, owed}
use Rattle.es_match.specs.Deeds.{Deed, Owned, deed, part_of, sleep_of}
use Rattle.es_match.specs.Patience.{has_drained, may_do, may_stir}
use Rattle.es_theorems.specs.Alike.{Alike}

-- who does it is one of n agents and has not ended, nothing was drained, and a wait or a sleep is ended by it
abbrev pub Acts : ℕ → Ledger → Owned → Type 0
Acts n l None = ⊤
Acts n l (Some p) = (p.0 < n) × (ended l p.0 ≡ false) × (has_drained l ≡ false) × (may_do (waits l p.0) p.1 ≡ true) × (may_stir (asleep l p.0) p.1 ≡ true)

-- the event may come next, and its agent may do it
pub record May (n : ℕ) (l : Ledger) (e : LedgerEvent) : Type 0 where
  pub legal : ComesNext n l e (owed l)
  pub acts : Acts n l (deed l e)

-- these events, the oldest first, may come one after the other
abbrev pub Steps : ℕ → List LedgerEvent → Ledger → Type 0
Steps n [] l = ⊤
Steps n (e ∷ es) l = May n l e × Steps n es (e ∷ l)

-- the history after them
abbrev pub played : List LedgerEvent → Ledger → Ledger
played [] l = l
played (e ∷ es) l = played es (e ∷ l)

-- agent a's deeds among them, without its waits
abbrev pub ahead : List LedgerEvent → Ledger → ℕ → List Deed
ahead [] l a = []
ahead (e ∷ es) l a = part_of a (deed l e) ++ ahead es (e ∷ l) a

-- two histories tell the same, of waits and of sleeps too, and after both the same may come
pub record Like (l m : Ledger) : Type 0 where
  pub alike : Alike l m
  pub waits : (a : ℕ) → waits l a ≡ waits m a
  pub sleeps : (a : ℕ) → sleep_of l a ≡ sleep_of m a
  pub owes : owed l ≡ owed m
  pub drained : has_drained l ≡ has_drained m

-- each of these is a deed of another agent than a
abbrev pub Elsewhere : ℕ → List LedgerEvent → Ledger → Type 0
Elsewhere a [] l = ⊤
Elsewhere a (e ∷ es) l = ((b : ℕ) × (d : Deed) × (deed l e ≡ Some (b, d)) × (a ≡ b → ⊥)) × Elsewhere a es (e ∷ l)

-- the same events in another order: they may come too, each agent does the same in the same order, and what they leave is the same
pub record Rearranged (k : ℕ) (es fs : List LedgerEvent) (l : Ledger) : Type 0 where
  pub steps : Steps k fs l
  pub parts : (a : ℕ) → ahead es l a ≡ ahead fs l a
  pub like : Like (played es l) (played fs l)
  pub size : length es ≡ length fs
