use Rattle.std.proofs.Common.{◌≡◌, ◌+◌, ℕ, [], length}
use Rattle.std.specs.Prelude.{slice_index_or}
use Rattle.es_ledger.specs.Ports.{no_queue}
use Rattle.es_ledger.proofs.ports.Ports.end.Given as goal

abbrev pub invariant-loop : goal.invariant-loop
invariant-loop g l = record {
  rest : length l.queues.items + l.counter ≡ l.end;
  empty : (i : ℕ) → (slice_index_or l.queues.items i no_queue).letters ≡ [];
}
