use Rattle.std.proofs.Common.{◌≡◌, ◌≤◌, ◌+◌, vec_len}
use Rattle.std.specs.Prelude.{vec_capacity}
use Rattle.es_run.proofs.run.unlock_all.Given as goal

abbrev pub invariant-loop : goal.invariant-loop
invariant-loop g l = record {
  left : vec_len l.locks + l.counter ≡ l.end;
  members : vec_len l.members ≡ l.counter;
  room : l.end ≤ vec_capacity l.members;
}
