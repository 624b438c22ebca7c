use Rattle.std.proofs.Common.{◌≡◌, ◌∙◌, ap, arith}
use Rattle.es_ledger.specs.Draining.{drained_below}
use Rattle.es_ledger.proofs.Emptying.{all_drained}
use Rattle.es_ledger.proofs.ledger.LedgerCore.drain.Goals as goal

pub returns-clause-empty : goal.returns-clause-empty
returns-clause-empty g c =
    let v = c.loop-receiver.invariant in
    let history = rw (← c.self.view_is) at v.history in
    let agents = rw (← c.self.view_is) at v.agents in
    let at : c.loop-receiver.receiver ≡ c.self.inside.rows.agents = omega arith in
    all_drained c.self.inside.rows.agents c.self.inside.history.events c.loop-receiver.self.history c.self.invariant.legal.0
    (history ∙ ap (λ n. drained_below c.self.inside.history.events n c.loop-receiver.receiver) agents ∙ ap (drained_below c.self.inside.history.events c.self.inside.rows.agents) at)
