use Rattle.std.proofs.Common.{◌≡◌}
use Rattle.es_event.specs.LegalLedger.{all_ended}
use Rattle.es_ledger.proofs.ledger.LedgerCore.all_ended.Given as goal

abbrev pub invariant-loop-i : goal.invariant-loop-i
invariant-loop-i g l = l.all ≡ all_ended l.self.history l.i
