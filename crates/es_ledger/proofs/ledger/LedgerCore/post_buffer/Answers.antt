use Rattle.std.proofs.Common.{◌∙◌, ◌+◌, ◌++◌, ◌∷◌, [], refl, ap, arith, length}
use Rattle.es_event.specs.Rows.{row}
use Rattle.es_ledger.specs.declared.message.Letter.TheVariants.{Block}
use Rattle.es_ledger.specs.Ports.{letters_at}
use Rattle.es_ledger.proofs.Tying.{in_history, stake_counted, reserved_room}
use Rattle.es_ledger.proofs.Sending.{posted_row, tickets_few, posted_block_ties}
use Rattle.es_ledger.proofs.ledger.LedgerCore.post_buffer.Goals as goal

pub gain-requires-clause-there : goal.gain-requires-clause-there
gain-requires-clause-there g c =
    rw (c.block-block.ensures, c.in_ok-posted.ensures.ticket)
    (stake_counted _ c.self.inside.history.events _ c.args.stake.now.agent _ c.args.ticket.now c.self.invariant c.requires.here c.look.ensures.told)

pub gain-requires-clause-few : goal.gain-requires-clause-few
gain-requires-clause-few g c =
    let few = tickets_few _ c.self.inside.history.events _ c.block-block.result c.self.invariant in
    let lines = rw (c.look.ensures.same.0) at c.make_room.ensures.lines in
    omega (arith, few, lines)

pub invariant_of-self-2 : goal.invariant_of-self-2
invariant_of-self-2 g c =
    let known = rw (← c.self.view_is) at c.requires.known in
    let kept = c.in_ok-reserve.ensures in
    let mine = in_history _ c.args.stake.now.agent _ c.self.inside.history.events c.args.ticket.now c.requires.here c.look.ensures.told c.self.invariant.tabled in
    let made = posted_row _ c.self.inside.history.events _ c.args.stake.now.agent _ c.args.ticket.now c.self.invariant c.requires.here c.look.ensures.told in
    let ticket = c.in_ok-posted.ensures.ticket ∙ ap (λ d. row (length d.rows + 1) c.args.ticket.now.block c.args.ticket.now.words) c.look.ensures.same.0 ∙ made in
    let room = reserved_room _ _ _ _ _ c.make_room.new.history.room c.append.new.self.room 3 c.self.invariant
    (ap (λ d. length d.rows) c.look.ensures.same.0) (ap (λ xs. length xs) c.as_slice-agents.ensures.value) (rw kept.messages at c.in_ok-make_room.ensures.room) c.append.ensures.room in
    rw (c.append.ensures.events, c.gain.ensures, c.in_ok-posted.ensures.table.0, c.in_ok-posted.ensures.table.1, c.block-block.ensures, c.serial-serial.ensures, ticket, c.in_ok-make_room.ensures.same, c.look.ensures.same.0)
    (posted_block_ties _ c.self.inside.history.events _ _ _ _ c.number-sender.result c.args.receiver c.args.ticket.now c.self.invariant (rw (c.number-sender.ensures, c.look.ensures.same.1) known.0) known.1 (rw (c.number-sender.ensures, c.look.ensures.same.1) c.requires.other)
    (rw (c.number-sender.ensures, c.look.ensures.same.1) mine)
    (c.push.ensures.size ∙ kept.size)
    (c.push.ensures.here ∙ ap (λ q. q ++ Block c.in_ok-posted.posted ∷ []) (kept.same c.number-sender.result c.args.receiver) ∙ ap (λ t. letters_at c.self.inside.ports.queues c.number-sender.result c.args.receiver ++ Block t ∷ []) ticket)
    (λ s r column apart. c.push.ensures.others s r column apart ∙ kept.same s r)
    (c.push.ensures.messages ∙ ap (λ m. m + 1) kept.messages) room)

pub returns-clause-history : goal.returns-clause-history
returns-clause-history g c =
    let made = posted_row _ c.self.inside.history.events _ c.args.stake.now.agent _ c.args.ticket.now c.self.invariant c.requires.here c.look.ensures.told in
    let ticket = c.in_ok-posted.ensures.ticket ∙ ap (λ d. row (length d.rows + 1) c.args.ticket.now.block c.args.ticket.now.words) c.look.ensures.same.0 ∙ made in
    rw (← c.self.view_is)
    (c.in_ok-posted.ensures.table.0 ∙ ap (λ d. d.agents) c.look.ensures.same.0, rw (c.append.ensures.events, c.number-sender.ensures, c.look.ensures.same.1, c.block-block.ensures, c.serial-serial.ensures, ticket, c.in_ok-make_room.ensures.same) refl)
