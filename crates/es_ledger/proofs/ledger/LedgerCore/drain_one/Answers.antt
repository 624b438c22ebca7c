use Rattle.std.proofs.Common.{◌∙◌, ◌∷◌, ap}
use Rattle.es_ledger.specs.declared.message.Letter.TheVariants.{Block}
use Rattle.es_ledger.specs.Ports.{letters_at}
use Rattle.es_ledger.proofs.Sending.{letter_lies}
use Rattle.es_ledger.proofs.Emptying.{drained_block_ties, drained_there, drained_room}
use Rattle.es_ledger.proofs.ledger.LedgerCore.drain_one.Goals as goal

pub drain-requires : goal.drain-requires
drain-requires g c =
    let known = rw (← c.self.view_is) at c.requires.known in
    let here = c.in-Some.ensures.here ∙ ap (λ x. x ∷ letters_at c.pop.new.self.queues c.args.sender c.args.receiver) c.in-Block.is in
    letter_lies _ c.self.inside.history.events _ c.args.sender c.args.receiver (Block c.in-Block.ticket) _ c.self.invariant known.0 known.1 here

pub lose-requires : goal.lose-requires
lose-requires g c =
    let known = rw (← c.self.view_is) at c.requires.known in
    let here = c.in-Some.ensures.here ∙ ap (λ x. x ∷ letters_at c.pop.new.self.queues c.args.sender c.args.receiver) c.in-Block.is in
    rw (c.block-block.ensures) (drained_there _ c.self.inside.history.events _ c.args.sender c.args.receiver c.in-Block.ticket _ c.self.invariant known.0 known.1 here)

pub append-requires-in-Block : goal.append-requires-in-Block
append-requires-in-Block g c =
    let known = rw (← c.self.view_is) at c.requires.known in
    let here = c.in-Some.ensures.here ∙ ap (λ x. x ∷ letters_at c.pop.new.self.queues c.args.sender c.args.receiver) c.in-Block.is in
    drained_room _ c.self.inside.history.events _ _ _ c.args.sender c.args.receiver c.in-Block.ticket _ c.self.invariant known.0 known.1 here c.in-Some.ensures.messages c.append.ensures.room

pub invariant_of-self-in-Block : goal.invariant_of-self-in-Block
invariant_of-self-in-Block g c =
    let known = rw (← c.self.view_is) at c.requires.known in
    let over = rw (← c.self.view_is) at c.requires.over in
    let here = c.in-Some.ensures.here ∙ ap (λ x. x ∷ letters_at c.pop.new.self.queues c.args.sender c.args.receiver) c.in-Block.is in
    rw (c.append-in-Block.ensures.events, c.append.ensures.events, c.serial-serial.ensures, c.lose.ensures.now, c.block-block.ensures, c.drain.ensures.table.0, c.drain.ensures.table.1)
    (drained_block_ties _ c.self.inside.history.events _ _ _ _ _ c.args.sender c.args.receiver c.in-Block.ticket c.self.invariant known.0 known.1 over
    c.in-Some.ensures.size here c.in-Some.ensures.others c.in-Some.ensures.messages c.append.ensures.room c.append-in-Block.ensures.room)
