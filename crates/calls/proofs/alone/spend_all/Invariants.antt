use Rattle.std.proofs.Common.{◌≡◌, ◌+◌, Bool, length}
use Rattle.std.specs.List.{count_by}
use Rattle.es_event.specs.declared.row.Row.{Row}
use Rattle.es_ticket.specs.Owned.{Owns}
use Rattle.calls.proofs.alone.spend_all.Given as goal

abbrev pub invariant-loop-place : goal.invariant-loop-place
invariant-loop-place g l = record {
  owns : Owns l.stake.rows l.rack.tickets;
  rest : length l.rack.tickets + l._place ≡ length l.fn.rack.tickets;
  agents : l.ledger.agents ≡ l.fn.ledger.agents;
  agent : l.stake.agent ≡ l.fn.stake.agent;
  spent : (p : Row → Bool) → count_by p l.fn.stake.rows + count_by (λ t. p t.1) l.rack.tickets ≡ count_by p l.stake.rows + count_by (λ t. p t.1) l.fn.rack.tickets;
}
