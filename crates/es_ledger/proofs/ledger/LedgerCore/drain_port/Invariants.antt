use Rattle.std.proofs.Common.{◌≡◌, true, length}
use Rattle.es_event.specs.Ledger.{port_of}
use Rattle.es_event.specs.LegalLedger.{all_ended}
use Rattle.es_ledger.specs.Draining.{drained_each}
use Rattle.es_ledger.proofs.ledger.LedgerCore.drain_port.Given as goal

abbrev pub invariant-loop-self : goal.invariant-loop-self
invariant-loop-self g l = record {
  agents : l.self.agents ≡ l.initial.self.agents;
  over : all_ended l.self.history l.self.agents ≡ true;
  each : drained_each l.self.history l.sender l.receiver (port_of l.self.history l.sender l.receiver) ≡ drained_each l.initial.self.history l.sender l.receiver (port_of l.initial.self.history l.sender l.receiver);
}

abbrev pub decreases-loop-self : goal.decreases-loop-self
decreases-loop-self g l = length (port_of l.self.history l.sender l.receiver)
