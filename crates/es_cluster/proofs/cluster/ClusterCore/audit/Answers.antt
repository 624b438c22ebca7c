use Rattle.std.proofs.Common.{subst}
use Rattle.std.proofs.lemmas.Result.{IfOk-weaker}
use Rattle.es_ledger.specs.Audits.{IsAudit}
use Rattle.es_ledger.specs.LedgerView.{LedgerView}
use Rattle.es_cluster.proofs.Audited.{audits}
use Rattle.es_cluster.specs.Audits.{Audits}
use Rattle.es_cluster.specs.State.{cores}
use Rattle.es_cluster.proofs.cluster.ClusterCore.audit.Goals as goal

pub returns-clause-audit : goal.returns-clause-audit
returns-clause-audit g c =
    rw (← c.self.view_is)
    (IfOk-weaker c.audit.result (λ a. IsAudit c.count_all-in_agents.new.ledger.agents c.count_all-in_agents.new.ledger.history a) (λ a. Audits (cores c.self.inside.members.items) c.self.inside.ledger a) (λ a is. audits (cores c.self.inside.members.items) c.self.inside.ledger a c.self.invariant.0.size c.history.ensures.legal c.count_all-in_agents.ensures.rows (subst (λ (l : LedgerView). IsAudit l.agents l.history a) c.count_all-in_agents.ensures.same.1 is)) c.audit.ensures)
