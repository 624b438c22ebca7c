use Rattle.std.proofs.Common.{◌≡◌, ℕ, ◌<◌, Some}
use Rattle.std.specs.Prelude.{slice_get}
use Rattle.es_event.specs.Ledger.{table}
use Rattle.es_event.specs.Rows.{held}
use Rattle.es_ledger.specs.Audits.{held_below}
use Rattle.es_cluster.specs.Members.{rows_of, SameRows}
use Rattle.es_record.specs.AgentView.{AgentView}
use Rattle.es_cluster.specs.State.{cores}
use Rattle.es_cluster.proofs.auditing.count_all.Given as goal

abbrev pub invariant-loop-agent : goal.invariant-loop-agent
invariant-loop-agent g l = record {
  same : l.members.items ≡ l.fn.members.items;
  ledger : l.ledger ≡ l.fn.ledger;
  count : l.count ≡ held_below l.agent l.fn.ledger.history;
  rows : (n : ℕ) (b : AgentView) → n < l.agent → slice_get (cores l.fn.members.items) n ≡ Some b → SameRows (rows_of b) (held n (table l.fn.ledger.history));
}
