use Rattle.std.proofs.Common.{◌∙◌, ap, arith}
use Rattle.es_event.specs.Ledger.{table}
use Rattle.es_event.specs.Rows.{held}
use Rattle.es_cluster.proofs.Audited.{counted}
use Rattle.es_cluster.proofs.member.Member.count_with.Goals as goal

pub overflow_add-result : goal.overflow_add-result
overflow_add-result g c =
    let known = rw (← c.self.view_is) at c.requires.known in
    let before = rw (← c.self.view_is) at c.requires.before in
    let mine = c.look.ensures.told ∙ ap (λ n. held n (table c.args.ledger.now.history)) c.self.invariant.0.0 in
    let all = counted c.self.inside.core c.self.inside.stake.rows c.args.ledger.now.history c.args.ledger.now.agents c.args.before c.ticket_count.result known c.self.invariant.0.1 mine before c.ticket_count.ensures c.look.ensures.few in
    omega (arith, all.1)

pub returns-clause-count : goal.returns-clause-count
returns-clause-count g c =
    let known = rw (← c.self.view_is) at c.requires.known in
    let before = rw (← c.self.view_is) at c.requires.before in
    let mine = c.look.ensures.told ∙ ap (λ n. held n (table c.args.ledger.now.history)) c.self.invariant.0.0 in
    rw (← c.self.view_is) (counted c.self.inside.core c.self.inside.stake.rows c.args.ledger.now.history c.args.ledger.now.agents c.args.before c.ticket_count.result known c.self.invariant.0.1 mine before c.ticket_count.ensures c.look.ensures.few).0
