use Rattle.std.proofs.Common.{sym, ◌∙◌, ap, reverse}
use Rattle.es_event.specs.Sharing.{row_at}
use Rattle.es_ticket.specs.Stakes.{is_rising_from}
use Rattle.es_record.proofs.Buffered.{first_row}
use Rattle.es_record.proofs.buffers.BufferTable.row.Goals as goal

pub returns-in-len1-up : goal.returns-in-len1-up
returns-in-len1-up c =
    let all = c.as_slice.ensures.value in
    let first = first_row c.as_slice.result.now c.args.buffer c.index-row-0.result c.index-first-0.result (ap (is_rising_from 0) all ∙ c.self.invariant) c.in-len1-up.len_at_least (sym c.eq.ensures ∙ c.if-eq.true) in
    rw (← c.self.view_is) (first ∙ ap (λ ts. row_at (reverse ts) c.args.buffer) all)
