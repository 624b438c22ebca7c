use Rattle.std.proofs.Common.{◌≡◌, ◌∙◌, sym, ap, length}
use Rattle.es_event.specs.Ledger.{word}
use Rattle.es_ledger.proofs.Tying.{in_history, stake_there, stake_inside, reserved_room}
use Rattle.es_ledger.proofs.Slept.{lies_down, slept_ties}
use Rattle.es_ledger.proofs.ledger.LedgerCore.sleep.Goals as goal

pub word-requires : goal.word-requires
word-requires g c =
    rw (c.block.ensures) (stake_inside _ _ _ c.args.stake.now.agent _ _ c.args.ticket.now c.self.invariant c.requires.here c.look.ensures.told c.requires.inside)

pub invariant_of-self-2 : goal.invariant_of-self-2
invariant_of-self-2 g c =
    let there = stake_there _ c.self.inside.history.events _ c.args.stake.now.agent _ c.args.ticket.now c.self.invariant c.requires.here c.look.ensures.told in
    let is : word c.self.inside.history.events c.args.ticket.now.block c.args.index ≡ c.args.word = sym (c.self.invariant.words c.args.ticket.now.block c.args.index there) ∙ sym (rw (c.block.ensures) at c.word.ensures) ∙ c.if-word.false in
    let has = in_history _ c.args.stake.now.agent _ c.self.inside.history.events c.args.ticket.now c.requires.here c.look.ensures.told c.self.invariant.tabled in
    let known = rw (← c.self.view_is) at c.requires.known in
    let going = rw (← c.self.view_is) at c.requires.going in
    let room = reserved_room _ _ _ _ _ c.make_room.new.history.room c.append.new.self.room 2 c.self.invariant
    (ap (λ d. length d.rows) c.look.ensures.same.0) (ap (λ xs. length xs) c.as_slice-agents.ensures.value) c.in_ok-make_room.ensures.room c.append.ensures.room in
    rw (c.append.ensures.events, c.push_reserved.ensures.items, c.in_ok-reserve.ensures.items, c.serial.ensures, c.block-2.ensures, c.number-agent.ensures, c.look.ensures.same.1, c.in_ok-make_room.ensures.same, c.look.ensures.same.0, ← is)
    (slept_ties _ c.self.inside.history.events _ _ c.args.stake.now.agent c.args.index c.args.ticket.now c.self.invariant has c.requires.inside known going.2 going.0 going.1 room)

pub returns-clause-told : goal.returns-clause-told
returns-clause-told g c =
    let there = stake_there _ c.self.inside.history.events _ c.args.stake.now.agent _ c.args.ticket.now c.self.invariant c.requires.here c.look.ensures.told in
    let is : word c.self.inside.history.events c.args.ticket.now.block c.args.index ≡ c.args.word = sym (c.self.invariant.words c.args.ticket.now.block c.args.index there) ∙ sym (rw (c.block.ensures) at c.word.ensures) ∙ c.if-word.false in
    rw (← c.self.view_is)
    (rw (c.append.ensures.events, c.number-agent.ensures, c.look.ensures.same.1, c.serial.ensures, c.in_ok-make_room.ensures.same)
    (sym (lies_down c.self.inside.history.events c.args.stake.now.agent c.args.index c.args.word c.args.ticket.now is)))
