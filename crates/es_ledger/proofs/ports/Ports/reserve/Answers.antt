use Rattle.std.proofs.Common.{ap, arith, ◌+◌, ◌*◌, length}
use Rattle.es_ledger.proofs.Columns.{other_total}
use Rattle.es_ledger.proofs.ports.Ports.reserve.Goals as goal

pub invariant_of-self : goal.invariant_of-self
invariant_of-self g c =
    let inside = rw (← c.self.view_is) at c.requires.inside in
    let all = other_total c.self.inside.queues.items (c.args.sender * 8 + c.args.receiver) c.index_mut.result.now c.reserve.new.self inside.0 c.index_mut.ensures.value in
    let same = ap (λ l. length l) c.reserve.ensures.same in
    let total = c.self.invariant.0 in
    (omega (arith, all, same, total), c.self.invariant.1)
