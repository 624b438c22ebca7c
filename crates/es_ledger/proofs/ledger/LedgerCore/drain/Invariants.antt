use Rattle.std.proofs.Common.{◌≡◌, true}
use Rattle.es_event.specs.LegalLedger.{all_ended}
use Rattle.es_ledger.specs.Draining.{drained_below}
use Rattle.es_ledger.proofs.ledger.LedgerCore.drain.Given as goal

abbrev pub invariant-loop-receiver : goal.invariant-loop-receiver
invariant-loop-receiver g l = record {
  agents : l.self.agents ≡ l.initial.self.agents;
  over : all_ended l.self.history l.self.agents ≡ true;
  history : l.self.history ≡ drained_below l.initial.self.history l.self.agents l.receiver;
}
