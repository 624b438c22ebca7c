use Rattle.std.proofs.Common.{◌≡◌, ◌+◌, ◌≤◌, ◌++◌, length}
use Rattle.std.specs.VecDeque.{deque_len, deque_capacity}
use Rattle.es_registry.proofs.emptying.append.Given as goal

abbrev pub invariant-loop-id : goal.invariant-loop-id
invariant-loop-id l = (l.queue.items ++ l.id-iterator ≡ l.fn.queue.items ++ l.ids.keys) × (deque_len l.queue + length l.id-iterator ≤ deque_capacity l.queue)
