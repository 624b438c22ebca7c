use Rattle.es_cluster.proofs.Opening.{opened_seat, opened_moves}
use Rattle.es_cluster.proofs.member.Member.begin_later.Goals as goal

pub invariant_of-self : goal.invariant_of-self
invariant_of-self g c =
    let due = rw (← c.self.view_is) at c.requires in
    opened_seat c.begin_later.result c.self.inside.core c.begin_later.new.self c.self.inside.stake _ due c.begin_later.ensures.records c.begin_later.ensures.err c.self.invariant

pub returns-clause-ok : goal.returns-clause-ok
returns-clause-ok g c =
    let due = rw (← c.self.view_is) at c.requires in
    rw (← c.self.view_is) (opened_moves c.begin_later.result c.self.inside.core c.begin_later.new.self due c.begin_later.ensures.records)
