use Rattle.std.proofs.Common.{arith}
use Rattle.es_ticket.proofs.Lines.{moved_set}
use Rattle.es_ticket.proofs.rows.hand_over.Goals as goal

pub returns : goal.returns
returns c =
    let there = c.requires.there in
    moved_set 1 _ c.args.serial c.args.holder c.index_mut.result.now c.args.entries.now.items (omega arith) (omega arith) c.requires.numbered c.index_mut.ensures.value
