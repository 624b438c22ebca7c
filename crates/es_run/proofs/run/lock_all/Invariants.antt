use Rattle.std.proofs.Common.{◌≡◌, ◌≤◌, ◌+◌, vec_len}
use Rattle.std.specs.Prelude.{vec_capacity}
use Rattle.es_run.proofs.run.lock_all.Given as goal

abbrev pub invariant-loop : goal.invariant-loop
invariant-loop g l = record {
  left : vec_len l.members + l.counter ≡ l.end;
  locks : vec_len l.locks ≡ l.counter;
  room : l.end ≤ vec_capacity l.locks;
  place : l.end ≤ vec_capacity l.members;
}
