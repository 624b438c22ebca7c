use Rattle.std.proofs.Common.{◌≤◌}
use Rattle.std.specs.Prelude.{vec_capacity}
use Rattle.es_ledger.proofs.Auditing.{Counted}
use Rattle.es_ledger.proofs.ledger.LedgerCore.audit.Given as goal

abbrev pub invariant-loop-place : goal.invariant-loop-place
invariant-loop-place g l = record {
  room : l.blocks ≤ vec_capacity l.counts;
  counted : Counted l.place l.self.history l.counts.items l.tickets l.released;
}
