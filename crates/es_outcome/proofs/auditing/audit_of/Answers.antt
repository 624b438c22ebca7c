use Rattle.std.proofs.Common.{map, subst, ◌∙◌}
use Rattle.std.proofs.lemmas.List.{length-map}
use Rattle.std.proofs.lemmas.Result.{IfOk-weaker}
use Rattle.es_event.specs.LegalLedger.{LegalLedger}
use Rattle.es_ledger.specs.Audits.{IsAudit}
use Rattle.es_ledger.specs.LedgerView.{LedgerView}
use Rattle.es_cluster.proofs.Audited.{audits}
use Rattle.es_cluster.specs.Audits.{Audits}
use Rattle.es_cluster.proofs.Standing.{cores_length}
use Rattle.es_cluster.specs.State.{cores}
use Rattle.es_outcome.proofs.auditing.audit_of.Goals as goal

pub returns-clause-audit : goal.returns-clause-audit
returns-clause-audit g c =
    let bs = cores (map (λ m. m.now) c.args.members.now) in
    let size = cores_length (map (λ m. m.now) c.args.members.now) ∙ length-map c.args.members.now (λ m. m.now) ∙ c.requires.all in
    let later = c.count_all-in_agents.ensures.ledger in
    IfOk-weaker c.audit.result (λ a. IsAudit c.count_all-in_agents.new.ledger.agents c.count_all-in_agents.new.ledger.history a) (λ a. Audits bs c.args.ledger.now a)
    (λ a is. audits bs c.args.ledger.now a size (subst (λ (l : LedgerView). LegalLedger l.agents l.history) later c.history.ensures.legal) c.count_all-in_agents.ensures.rows (subst (λ (l : LedgerView). IsAudit l.agents l.history a) later is)) c.audit.ensures
