use Rattle.std.proofs.Common.{ap, subst, sym, ◌∙◌}
use Rattle.es_ledger.specs.LedgerView.{LedgerView}
use Rattle.es_cluster.specs.Ends.{HaveNoTicket}
use Rattle.es_cluster.specs.State.{cores}
use Rattle.es_outcome.proofs.ending.finish.Goals as goal

pub returns-clause-tickets : goal.returns-clause-tickets
returns-clause-tickets g c =
    subst (HaveNoTicket (cores c.args.parts.members.items)) (sym (c.into_history.ensures.value ∙ ap (λ (l : LedgerView). l.history) c.into_histories-histories.ensures.same)) c.into_histories-histories.ensures.none
