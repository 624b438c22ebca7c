-- Internal: all that agents do was done by turns.
use Rattle.std.specs.Prelude.{ℕ, ◌≡◌, ⊤, List, [], ◌∷◌, None}
use Rattle.es_event.specs.declared.ledger_event.LedgerEvent.{LedgerEvent}
use Rattle.es_event.specs.Ledger.{Ledger}
use Rattle.es_match.specs.Deeds.{deed, part}
use Rattle.es_match.specs.Cluster.{Account}
use Rattle.es_cluster.specs.State.{ClusterView}
use Rattle.es_cluster.specs.Turns.{AllTurned}
use Rattle.es_theorems.specs.Ahead.{Like, played}
use Rattle.es_theorems.specs.Underway.{Underway}

-- nothing follows, or what follows is nobody's deed
abbrev pub IsIdle : List LedgerEvent → Ledger → Type 0
IsIdle [] l = ⊤
IsIdle (e ∷ es) l = deed l e ≡ None

pub record Through (n : ℕ) (all : List Account) (c : ClusterView) (es : List LedgerEvent) : Type 0 where
  pub turns : List ℕ
  pub after : ClusterView
  pub turned : AllTurned turns c after
  pub behind : List LedgerEvent
  pub on : Underway n all after behind
  pub idle : IsIdle behind after.ledger.history
  pub like : Like (played es c.ledger.history) (played behind after.ledger.history)
  pub parts : (a : ℕ) → part (played es c.ledger.history) a ≡ part (played behind after.ledger.history) a
