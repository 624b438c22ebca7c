-- Internal: where an agent's next event is among those that follow, and which deeds an agent does in one turn.
use Rattle.std.specs.Prelude.{ℕ, ◌≡◌, ⊤, false, List, [], ◌∷◌, ◌++◌, Some}
use Rattle.es_event.specs.declared.ledger_event.LedgerEvent.{LedgerEvent}
use Rattle.es_event.specs.Ledger.{Ledger}
use Rattle.es_match.specs.Deeds.{Deed, Spends, Ends, deed, is_wait}
use Rattle.es_theorems.specs.Doing.{event_of}
use Rattle.es_theorems.specs.Ahead.{Elsewhere, Rearranged, ahead, played}

-- agent a's next event
pub record Found (a : ℕ) (es : List LedgerEvent) (l : Ledger) : Type 0 where
  pub before : List LedgerEvent
  pub event : LedgerEvent
  pub behind : List LedgerEvent
  pub split : es ≡ before ++ event ∷ behind
  pub away : Elsewhere a before l
  pub does : Deed
  pub mine : deed (played before l) event ≡ Some (a, does)

-- each of these events is a deed of agent a, and no wait
abbrev pub AllMine : ℕ → List LedgerEvent → Ledger → Type 0
AllMine a [] l = ⊤
AllMine a (e ∷ es) l = ((d : Deed) × (deed l e ≡ Some (a, d)) × (is_wait d ≡ false)) × AllMine a es (e ∷ l)

-- tickets are spent, and after the last of them the agent may end
abbrev pub AreSpends : List Deed → Type 0
AreSpends [] = ⊤
AreSpends (Spends s ∷ ds) = AreSpends ds
AreSpends (Ends ∷ ds) = ds ≡ []
AreSpends _ = ⊥

-- the agent's next deeds, these, come first
pub record Gathered (k a : ℕ) (ds : List Deed) (es : List LedgerEvent) (l : Ledger) : Type 0 where
  pub first : List LedgerEvent
  pub others : List LedgerEvent
  pub same : Rearranged k es (first ++ others) l
  pub all_mine : AllMine a first l
  pub deeds : ahead first l a ≡ ds

-- the agent's next deed comes first
pub record First (k a : ℕ) (d : Deed) (ds : List Deed) (es : List LedgerEvent) (l : Ledger) : Type 0 where
  pub event : LedgerEvent
  pub behind : List LedgerEvent
  pub is : event ≡ event_of a d
  pub same : Rearranged k es (event ∷ behind) l
  pub mine : deed l event ≡ Some (a, d)
  pub deeds : ahead behind (event ∷ l) a ≡ ds
