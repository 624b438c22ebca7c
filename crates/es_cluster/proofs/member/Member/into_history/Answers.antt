use Rattle.std.proofs.Common.{sym, ◌∙◌, ap}
use Rattle.es_event.specs.Ledger.{table}
use Rattle.es_event.specs.Rows.{held}
use Rattle.es_cluster.proofs.CountingTickets.{none_over}
use Rattle.es_cluster.proofs.member.Member.into_history.Goals as goal

pub returns-clause-none : goal.returns-clause-none
returns-clause-none g c =
    let over = rw (← c.self.view_is) at c.requires in
    rw (← c.self.view_is) (ap (λ n. held n (table c.args.ledger.now.history)) (sym c.self.invariant.0.0) ∙ sym c.look.ensures.told ∙ none_over c.self.inside.core c.self.inside.stake.rows over c.self.invariant.0.1)
