use Rattle.std.proofs.Common.{◌≡◌, true}
use Rattle.es_event.specs.LegalLedger.{all_ended}
use Rattle.es_cluster.specs.Ends.{with_ends}
use Rattle.es_cluster.proofs.ending.end_all.Given as goal

abbrev pub invariant-loop-agent : goal.invariant-loop-agent
invariant-loop-agent g l = (l.ledger.agents ≡ l.agents) × (all_ended l.ledger.history l.agent ≡ true) × (l.ledger.history ≡ with_ends l.agent l.fn.ledger.history)
