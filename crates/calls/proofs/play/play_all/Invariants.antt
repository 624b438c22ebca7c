use Rattle.std.proofs.Common.{◌≡◌}
use Rattle.calls.proofs.play.play_all.Given as goal

abbrev pub invariant-loop-digit : goal.invariant-loop-digit
invariant-loop-digit g l = l.ledger.agents ≡ l.fn.ledger.agents
