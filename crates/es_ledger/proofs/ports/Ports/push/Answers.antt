use Rattle.std.proofs.Common.{arith, ◌+◌, ◌*◌}
use Rattle.es_ledger.proofs.Columns.{pushed_total}
use Rattle.es_ledger.proofs.ports.Ports.push.Goals as goal

pub invariant_of-self : goal.invariant_of-self
invariant_of-self g c =
    let inside = rw (← c.self.view_is) at c.requires.inside in
    let room = rw (← c.self.view_is) at c.requires.room in
    let few = room.1 in
    let all = pushed_total c.self.inside.queues.items (c.args.sender * 8 + c.args.receiver) c.index_mut.result.now c.push.new.self c.args.letter inside.0 c.index_mut.ensures.value c.push.ensures in
    let total = c.self.invariant.0 in
    (omega (arith, all, total), omega (arith, few))
