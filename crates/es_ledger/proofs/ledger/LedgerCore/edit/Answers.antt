use Rattle.std.proofs.Common.{◌∙◌, ap, arith, length}
use Rattle.es_ledger.proofs.Tying.{in_history, stake_there, stake_inside, reserved_room, accessed_ties}
use Rattle.es_ledger.proofs.ledger.LedgerCore.edit.Goals as goal

pub returns-in_err-make_room-clause-there : goal.returns-in_err-make_room-clause-there
returns-in_err-make_room-clause-there g c =
    rw (← c.self.view_is) (stake_there _ c.self.inside.history.events _ c.args.stake.now.agent _ c.args.ticket.now c.self.invariant c.requires.here c.look.ensures.told)

pub edit-old-requires : goal.edit-old-requires
edit-old-requires g c =
    rw (c.block.ensures) (stake_inside _ _ _ c.args.stake.now.agent _ _ c.args.ticket.now c.self.invariant c.requires.here c.look.ensures.told c.requires.inside)

pub invariant_of-self-2 : goal.invariant_of-self-2
invariant_of-self-2 g c =
    let has = in_history _ c.args.stake.now.agent _ c.self.inside.history.events c.args.ticket.now c.requires.here c.look.ensures.told c.self.invariant.tabled in
    let there = stake_there _ c.self.inside.history.events _ c.args.stake.now.agent _ c.args.ticket.now c.self.invariant c.requires.here c.look.ensures.told in
    let kept = c.self.invariant.words c.args.ticket.now.block c.args.index there in
    let is = (rw (c.block.ensures) at c.edit-old.ensures.was) ∙ kept in
    let room = reserved_room _ _ _ _ _ c.make_room.new.history.room c.append.new.self.room 1 c.self.invariant
    (ap (λ d. length d.rows) c.look.ensures.same.0) (ap (λ xs. length xs) c.as_slice-agents.ensures.value) c.in_ok-make_room.ensures.room c.append.ensures.room in
    rw (c.append.ensures.events, c.serial.ensures, is, c.edit-old.ensures.now, c.block.ensures, kept, c.in_ok-make_room.ensures.same, c.look.ensures.same.0)
    (accessed_ties _ _ _ _ c.args.stake.now.agent c.args.index _ c.args.ticket.now c.self.invariant has c.requires.inside c.edit-old.ensures.fits (omega (arith, room)))

pub returns-clause-word : goal.returns-clause-word
returns-clause-word g c =
    let there = stake_there _ c.self.inside.history.events _ c.args.stake.now.agent _ c.args.ticket.now c.self.invariant c.requires.here c.look.ensures.told in
    rw (← c.self.view_is) ((rw (c.block.ensures) at c.edit-old.ensures.was) ∙ c.self.invariant.words c.args.ticket.now.block c.args.index there)

pub returns-clause-there : goal.returns-clause-there
returns-clause-there g c =
    rw (← c.self.view_is) (stake_there _ c.self.inside.history.events _ c.args.stake.now.agent _ c.args.ticket.now c.self.invariant c.requires.here c.look.ensures.told)
