use Rattle.std.proofs.Common.{◌≡◌, ◌+◌, length}
use Rattle.calls.proofs.seating.give_up.Given as goal

abbrev pub invariant-loop : goal.invariant-loop
invariant-loop g l = (l.ledger.agents ≡ l.fn.ledger.agents) × (length l.players.items + l.counter ≡ l.end)
