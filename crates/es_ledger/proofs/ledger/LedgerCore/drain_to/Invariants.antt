use Rattle.std.proofs.Common.{◌≡◌, true}
use Rattle.es_event.specs.LegalLedger.{all_ended}
use Rattle.es_ledger.specs.Draining.{drained_to}
use Rattle.es_ledger.proofs.ledger.LedgerCore.drain_to.Given as goal

abbrev pub invariant-loop-sender : goal.invariant-loop-sender
invariant-loop-sender g l = record {
  agents : l.self.agents ≡ l.initial.self.agents;
  over : all_ended l.self.history l.self.agents ≡ true;
  history : l.self.history ≡ drained_to l.initial.self.history l.receiver l.sender;
}
