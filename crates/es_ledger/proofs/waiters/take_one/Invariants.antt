use Rattle.std.proofs.Common.{◌≡◌}
use Rattle.es_ledger.proofs.Leaving.{NoneBefore}
use Rattle.es_ledger.proofs.waiters.take_one.Given as goal

abbrev pub invariant-loop-place : goal.invariant-loop-place
invariant-loop-place l = record {
  same : l.waiters.items ≡ l.initial.waiters.items;
  none : NoneBefore l.block l.index l.place l.waiters.items;
}
