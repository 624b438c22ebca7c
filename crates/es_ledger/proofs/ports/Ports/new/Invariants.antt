use Rattle.std.proofs.Common.{◌≡◌, ◌≤◌, ◌*◌, ℕ, [], length}
use Rattle.std.specs.Prelude.{vec_capacity, slice_index_or}
use Rattle.es_ledger.specs.Ports.{no_queue, total}
use Rattle.es_ledger.proofs.ports.Ports.new.Given as goal

abbrev pub invariant-loop : goal.invariant-loop
invariant-loop g l = record {
  size : length l.queues.items ≡ l.counter;
  room : l.agents * 8 ≤ vec_capacity l.queues;
  empty : (i : ℕ) → (slice_index_or l.queues.items i no_queue).letters ≡ [];
  none : total l.queues.items ≡ 0;
}
