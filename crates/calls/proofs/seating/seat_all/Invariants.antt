use Rattle.std.proofs.Common.{◌≡◌, []}
use Rattle.calls.proofs.seating.seat_all.Given as goal

abbrev pub invariant-loop-plan : goal.invariant-loop-plan
invariant-loop-plan g l = record {
  nothing : l.ledger.history ≡ [];
  agents : l.ledger.agents ≡ l.fn.ledger.agents;
}
