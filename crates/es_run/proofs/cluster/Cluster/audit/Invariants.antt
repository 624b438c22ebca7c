use Rattle.std.proofs.Common.{◌≡◌, ◌≤◌, vec_len}
use Rattle.std.specs.Prelude.{vec_capacity}
use Rattle.es_run.proofs.cluster.Cluster.audit.Given as goal

abbrev pub invariant-loop-lock : goal.invariant-loop-lock
invariant-loop-lock g l = record { count : vec_len l.guards ≡ l.lock-index; room : vec_len l.self.agents ≤ vec_capacity l.guards }
