-- To believe: two histories of a ledger that tell the same, and two outcomes that are the same but for waits and the order of spending.
use Rattle.std.specs.Prelude.{ℕ, ◌≡◌, reverse}
use Rattle.es_event.specs.declared.outcome.Outcome.{Outcome}
use Rattle.es_event.specs.Ledger.{Ledger, opened, size, serials, port_of, table, word, ended}
use Rattle.es_event.specs.Waiters.{asleep, waiters}
use Rattle.es_event.specs.Totals.{posted, taken, drained}

-- they say the same of blocks, tickets, messages, words, WaiterLists, sleepers and ends; which agents waited in between may differ, and in which order an
-- agent spent the tickets that it gave up at once
pub record Alike (l m : Ledger) : Type 0 where
  pub opened : opened l ≡ opened m
  pub serials : serials l ≡ serials m
  pub sizes : (b : ℕ) → size l b ≡ size m b
  pub ports : (s r : ℕ) → port_of l s r ≡ port_of m s r
  pub tables : table l ≡ table m
  pub words : (b i : ℕ) → word l b i ≡ word m b i
  pub waiters : waiters l ≡ waiters m
  pub asleep : (a : ℕ) → asleep l a ≡ asleep m a
  pub ends : (a : ℕ) → ended l a ≡ ended m a
  pub posted : posted l ≡ posted m
  pub taken : taken l ≡ taken m
  pub drained : drained l ≡ drained m

-- the same names and histories of agents, and ledgers that tell the same
pub record SameEnd (o q : Outcome) : Type 0 where
  pub names : o.names ≡ q.names
  pub histories : o.histories ≡ q.histories
  pub ledgers : Alike (reverse o.ledger) (reverse q.ledger)
