use Rattle.std.proofs.Common.{◌≡◌, sym, ◌∙◌, ap, subst, ℕ, []}
use Rattle.es_event.specs.Ledger.{port_of}
use Rattle.es_cluster.specs.Ends.{AreHistories, HaveNoTicket}
use Rattle.es_cluster.specs.State.{cores}
use Rattle.es_cluster.proofs.Ended.{ends_in}
use Rattle.es_cluster.proofs.Histories.{are_ended}
use Rattle.es_cluster.proofs.cluster.ClusterCore.end.Goals as goal

pub into_histories-histories-requires-clause-ended : goal.into_histories-histories-requires-clause-ended
into_histories-histories-requires-clause-ended g c = are_ended (cores c.self.inside.members.items) c.self.inside.ledger c.self.invariant.0 (sym c.all_have_ended.ensures ∙ c.if-not-all_have_ended.false)

pub returns-clause-outcome : goal.returns-clause-outcome
returns-clause-outcome g c =
    let all = sym c.all_have_ended.ensures ∙ c.if-not-all_have_ended.false in
    let last = c.into_histories-histories.ensures.same in
    rw (← c.self.view_is)
    (ends_in (record { agents = cores c.self.inside.members.items; ledger = c.self.inside.ledger; failed = c.self.inside.failed }) c.into_histories-histories.new.ledger
    (record { names = c.self.inside.names; histories = c.from_vec.result; ledger = c.into_history.result })
    c.self.invariant.0 (c.self.invariant.1 c.if-self.false) c.history.ensures.legal all (ap (λ l. l.agents) last ∙ c.drain.ensures.history.0) (ap (λ l. l.history) last ∙ c.drain.ensures.history.1)
    c.self.invariant.2
    (subst (AreHistories (cores c.self.inside.members.items)) (sym c.from_vec.ensures) c.into_histories-histories.ensures.histories)
    c.into_history.ensures.value c.into_history.ensures.legal
    (subst (λ l. HaveNoTicket (cores c.self.inside.members.items) l.history) (sym last) c.into_histories-histories.ensures.none)
    (subst (λ l. (s r : ℕ) → port_of l.history s r ≡ []) (sym last) c.drain.ensures.empty))
