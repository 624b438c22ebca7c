-- Internal: what drains leave of a ledger.
use Rattle.std.specs.Prelude.{ℕ, ◌≡◌, ⊤, List, [], ◌∷◌, None, length, map}
use Rattle.es_event.specs.declared.ledger_event.LedgerEvent.{LedgerEvent}
use Rattle.es_event.specs.Ledger.{Ledger, ended, opened, port_of, serials, size, table, word}
use Rattle.es_event.specs.Rows.{held}
use Rattle.es_event.specs.Waiters.{asleep, waiters}
use Rattle.es_event.specs.Totals.{posted, taken}
use Rattle.es_ledger.specs.Laws.{sum_below}
use Rattle.es_match.specs.Deeds.{deed, part}
use Rattle.es_match.specs.Cluster.{Account, IsClusterOf}

-- none of these is an agent's deed
abbrev pub Ownerless : List LedgerEvent → Ledger → Type 0
Ownerless [] l = ⊤
Ownerless (e ∷ es) l = (deed l e ≡ None) × Ownerless es (e ∷ l)

-- it tells the same of all but messages and who holds what
pub record Unmoved (l m : Ledger) : Type 0 where
  pub opened : opened m ≡ opened l
  pub serials : serials m ≡ serials l
  pub sizes : (b : ℕ) → size m b ≡ size l b
  pub rows : map (λ e. e.row) (table m) ≡ map (λ e. e.row) (table l)
  pub words : (b i : ℕ) → word m b i ≡ word l b i
  pub lists : waiters m ≡ waiters l
  pub asleep : (a : ℕ) → asleep m a ≡ asleep l a
  pub ends : (a : ℕ) → ended m a ≡ ended l a
  pub posted : posted m ≡ posted l
  pub taken : taken m ≡ taken l
  pub parts : (a : ℕ) → part m a ≡ part l a

-- no agent holds a ticket
abbrev pub NoneHeld : Ledger → Type 0
NoneHeld l = (a : ℕ) → held a (table l) ≡ []

-- how many messages lie in the ports of n agents
abbrev pub letters : ℕ → Ledger → ℕ
letters n l = sum_below n (λ s. sum_below n (λ r. length (port_of l s r)))

-- what is kept of a ledger l while it is drained
pub record Kept (all : List Account) (l m : Ledger) : Type 0 where
  pub cluster : IsClusterOf all m
  pub held : NoneHeld m
  pub unmoved : Unmoved l m
