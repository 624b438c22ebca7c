use Rattle.std.proofs.Common.{◌≡◌}
use Rattle.es_event.specs.LegalLedger.{all_stuck}
use Rattle.es_ledger.proofs.ledger.LedgerCore.all_stuck.Given as goal

abbrev pub invariant-loop-i : goal.invariant-loop-i
invariant-loop-i g l = l.all ≡ all_stuck l.self.history l.i
