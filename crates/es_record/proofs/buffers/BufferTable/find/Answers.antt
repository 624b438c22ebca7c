use Rattle.std.proofs.Common.{◌∙◌, sym, ap, Some}
use Rattle.es_record.proofs.Buffered.{same_row}
use Rattle.es_record.proofs.buffers.BufferTable.find.Goals as goal

pub returns-in-Ok : goal.returns-in-Ok
returns-in-Ok c =
    let found = rw (c.deref.ensures.value) at c.in-Ok.ensures.found in
    rw (← c.self.view_is) (ap (λ t. Some t.1) c.index.ensures ∙ sym (same_row c.self.inside.all.items c.args.buffer c.self.invariant ∙ found.1 c.index.result.now))

pub returns-in-Err : goal.returns-in-Err
returns-in-Err c =
    let missing = rw (c.deref.ensures.value) at c.in-Err.ensures.missing in
    rw (← c.self.view_is) (sym (same_row c.self.inside.all.items c.args.buffer c.self.invariant ∙ missing))
