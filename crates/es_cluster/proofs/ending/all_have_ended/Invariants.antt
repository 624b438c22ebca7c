use Rattle.std.proofs.Common.{◌≡◌, true}
use Rattle.es_event.specs.LegalLedger.{all_ended}
use Rattle.es_cluster.proofs.ending.all_have_ended.Given as goal

abbrev pub invariant-loop-agent : goal.invariant-loop-agent
invariant-loop-agent g l = all_ended l.ledger.history l.agent ≡ true
