use Rattle.std.proofs.Common.{◌≡◌, ℕ, ◌+◌, ◌++◌, List, map, Bool, length}
use Rattle.std.specs.List.{count_by}
use Rattle.es_event.specs.declared.row.Row.{Row}
use Rattle.es_ticket.specs.Owned.{Owns}
use Rattle.es_event.specs.declared.ledger_event.LedgerEvent.TheVariants.{Spent}
use Rattle.es_cluster.specs.Tied.{AreDeedsOf}
use Rattle.es_cluster.specs.Turned.{spent}
use Rattle.es_cluster.proofs.spending.spend_all.Given as goal

abbrev pub invariant-loop-place : goal.invariant-loop-place
invariant-loop-place g l = record {
  owns : Owns l.stake.rows l.rack.tickets;
  rest : length l.rack.tickets + l._place ≡ length l.fn.rack.tickets;
  agents : l.ledger.agents ≡ l.fn.ledger.agents;
  history : spent l.rack.tickets l.ledger.history ≡ spent l.fn.rack.tickets l.fn.ledger.history;
  -- those that are spent already
  spendings : (done : List (ℕ × Row)) × (l.fn.rack.tickets ≡ l.rack.tickets ++ done) × (l.ledger.history ≡ spent done l.fn.ledger.history) × AreDeedsOf l.fn.stake.agent (map (λ t. Spent t.1.serial) done) l.fn.ledger.history;
  agent : l.stake.agent ≡ l.fn.stake.agent;
  spent : (p : Row → Bool) → count_by p l.fn.stake.rows + count_by (λ t. p t.1) l.rack.tickets ≡ count_by p l.stake.rows + count_by (λ t. p t.1) l.fn.rack.tickets;
}
