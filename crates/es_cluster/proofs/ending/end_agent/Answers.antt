use Rattle.std.proofs.Common.{◌≡◌, sym, subst, true}
use Rattle.es_event.specs.declared.ledger_event.LedgerEvent.TheVariants.{Acted}
use Rattle.es_event.specs.declared.ledger_event.Act.TheVariants.{Ended}
use Rattle.es_event.specs.LegalLedger.{all_ended}
use Rattle.es_cluster.proofs.Midway.{still_over}
use Rattle.es_cluster.proofs.ending.end_agent.Goals as goal

pub returns-then-not-has_ended-clause-others : goal.returns-then-not-has_ended-clause-others
returns-then-not-has_ended-clause-others g c = λ n over. subst (λ l. all_ended l n ≡ true) (sym c.ended.ensures.1) (still_over (Acted c.args.agent Ended) c.args.ledger.now.history n over)
