use Rattle.std.proofs.Common.{ap, arith, length}
use Rattle.es_ledger.proofs.Tying.{in_history, reserved_room}
use Rattle.es_ledger.proofs.Slept.{notified_ties, taken_few, taken_is}
use Rattle.es_ledger.proofs.ledger.LedgerCore.notify.Goals as goal

pub invariant_of-self-2 : goal.invariant_of-self-2
invariant_of-self-2 g c =
    let has = in_history _ c.args.stake.now.agent _ c.self.inside.history.events c.args.ticket.now c.requires.here c.look.ensures.told c.self.invariant.tabled in
    let many = taken_is _ c.self.inside.history.events c.self.inside.waiters.items c.take_first-taken.new.waiters.items _ c.args.ticket.now.block c.args.index c.args.count c.take_first-taken.result c.self.invariant.sleepers
    (rw (c.block.ensures) at c.take_first-taken.ensures.left) (omega (arith, c.take_first-taken.ensures.taken, c.self.inside.waiters.ok, c.take_first-taken.new.waiters.ok)) in
    let room = reserved_room _ _ _ _ _ c.make_room.new.history.room c.append.new.self.room 1 c.self.invariant
    (ap (λ d. length d.rows) c.look.ensures.same.0) (ap (λ xs. length xs) c.as_slice-agents.ensures.value) c.in_ok-make_room.ensures.room c.append.ensures.room in
    rw (c.append.ensures.events, c.serial.ensures, c.number.ensures, c.look.ensures.same.1, c.take_first-taken.ensures.left, c.block.ensures, c.in_ok-make_room.ensures.same, c.look.ensures.same.0)
    (notified_ties _ _ _ _ c.args.stake.now.agent c.args.index c.args.count c.take_first-taken.result c.args.ticket.now c.self.invariant has c.requires.inside many (omega (arith, room)))

pub overflow_cast-result : goal.overflow_cast-result
overflow_cast-result g c =
    let is = taken_is _ c.self.inside.history.events c.self.inside.waiters.items c.take_first-taken.new.waiters.items _ c.args.ticket.now.block c.args.index c.args.count c.take_first-taken.result c.self.invariant.sleepers
    (rw (c.block.ensures) at c.take_first-taken.ensures.left) (omega (arith, c.take_first-taken.ensures.taken, c.self.inside.waiters.ok, c.take_first-taken.new.waiters.ok)) in
    let few = taken_few c.self.inside.history.events c.args.ticket.now.block c.args.index c.args.count in
    let bound = c.ranges.count.fits in
    omega (arith, is, few, bound)

pub returns-clause-taken : goal.returns-clause-taken
returns-clause-taken g c =
    rw (← c.self.view_is)
    (taken_is _ c.self.inside.history.events c.self.inside.waiters.items c.take_first-taken.new.waiters.items _ c.args.ticket.now.block c.args.index c.args.count c.take_first-taken.result c.self.invariant.sleepers
    (rw (c.block.ensures) at c.take_first-taken.ensures.left) (omega (arith, c.take_first-taken.ensures.taken, c.self.inside.waiters.ok, c.take_first-taken.new.waiters.ok)))
