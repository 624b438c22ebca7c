use Rattle.std.proofs.Common.{◌≡◌}
use Rattle.es_event.specs.Waiters.{without_first}
use Rattle.es_ledger.proofs.waiters.take_first.Given as goal

abbrev pub invariant-loop : goal.invariant-loop
invariant-loop l = l.waiters.items ≡ without_first l.block l.index l.counter l.initial.waiters.items
