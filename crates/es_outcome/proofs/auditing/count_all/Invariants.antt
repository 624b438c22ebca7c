use Rattle.std.proofs.Common.{◌≡◌, ℕ, ◌<◌, Some, map}
use Rattle.std.specs.Prelude.{slice_get}
use Rattle.es_event.specs.Ledger.{table}
use Rattle.es_event.specs.Rows.{held}
use Rattle.es_ledger.specs.Audits.{held_below}
use Rattle.es_cluster.specs.Members.{rows_of, SameRows}
use Rattle.es_record.specs.AgentView.{AgentView}
use Rattle.es_cluster.specs.State.{cores}
use Rattle.es_outcome.proofs.auditing.count_all.Given as goal

abbrev pub invariant-loop-member : goal.invariant-loop-member
invariant-loop-member g l = record {
  same : map (λ m. m.now) l.members ≡ map (λ m. m.now) l.initial.members;
  ledger : l.ledger ≡ l.initial.ledger;
  count : l.count ≡ held_below l.member-index l.initial.ledger.history;
  rows : (n : ℕ) (b : AgentView) → n < l.member-index → slice_get (cores (map (λ m. m.now) l.initial.members)) n ≡ Some b → SameRows (rows_of b) (held n (table l.initial.ledger.history));
}
