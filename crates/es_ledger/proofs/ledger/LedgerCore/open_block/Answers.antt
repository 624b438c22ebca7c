use Rattle.std.proofs.Common.{◌∙◌, refl, ap, arith, length}
use Rattle.es_ledger.proofs.Tying.{reserved_room}
use Rattle.es_ledger.proofs.Opening.{next_row, opened_ties}
use Rattle.es_ledger.proofs.ledger.LedgerCore.open_block.Goals as goal

pub invariant_of-self-2 : goal.invariant_of-self-2
invariant_of-self-2 g c =
    let blocks = c.made.ensures.count ∙ ap (λ all. length all) c.in_ok-reserve.ensures.same in
    let ticket = c.in_ok-ticket.ensures.ticket ∙ next_row _ c.self.inside.history.events _ c.made.result c.args.words c.self.invariant blocks in
    let room = reserved_room _ _ _ _ _ c.make_room.new.history.room c.append.new.self.room 2 c.self.invariant
    refl (ap (λ xs. length xs) c.as_slice-agents.ensures.value) c.in_ok-make_room.ensures.room c.append.ensures.room in
    rw (c.append.ensures.events, c.serial.ensures, c.number.ensures, c.in_ok-ticket.ensures.stake.0, c.in_ok-ticket.ensures.table.0, c.in_ok-ticket.ensures.table.1, c.push.ensures, c.in_ok-reserve.ensures.same, c.in_ok-block.ensures, c.in_ok-make_room.ensures.same, ticket, blocks ∙ c.self.invariant.made)
    (opened_ties _ c.self.inside.history.events _ _ c.args.stake.now.agent c.args.words c.self.invariant (rw (← c.self.view_is) at c.requires) (omega (arith, room)))

pub returns-clause-ticket : goal.returns-clause-ticket
returns-clause-ticket g c =
    let blocks = c.made.ensures.count ∙ ap (λ all. length all) c.in_ok-reserve.ensures.same in
    rw (← c.self.view_is) (c.in_ok-ticket.ensures.ticket ∙ next_row _ c.self.inside.history.events _ c.made.result c.args.words c.self.invariant blocks)
