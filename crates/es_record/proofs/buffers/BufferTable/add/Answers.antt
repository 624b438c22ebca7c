use Rattle.std.specs.Prelude.{is_ok}
use Rattle.es_record.proofs.Buffered.{rises_either}
use Rattle.es_record.proofs.buffers.BufferTable.add.Goals as goal

pub invariant_of-self : goal.invariant_of-self
invariant_of-self c =
    let newer = rw (← c.self.view_is) at c.requires.newer in
    rw c.push.ensures.items (rises_either (is_ok c.push.result) c.self.inside.all.items (c.args.buffer, c.args.row) c.self.invariant newer)
