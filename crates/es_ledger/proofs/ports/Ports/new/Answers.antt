use Rattle.std.proofs.Common.{◌∙◌, ◌+◌, ap, arith, length, length-append, [], ◌∷◌}
use Rattle.std.specs.Prelude.{slice_index_or}
use Rattle.es_ledger.specs.Ports.{no_queue, total}
use Rattle.es_ledger.proofs.Columns.{total_append, still_empty}
use Rattle.es_ledger.proofs.ports.Ports.new.Goals as goal

pub loop-preserved : goal.loop-preserved
loop-preserved g c =
    let v = c.loop.invariant in
    let p = c.push_reserved.ensures in
    record {
      size = ap (λ l. length l) p.items ∙ length-append c.loop.queues.items (c.new.result ∷ []) ∙ ap (λ n. n + 1) v.size;
      room = (let q = p.capacity in let r = v.room in omega arith);
      empty = λ i. ap (λ l. (slice_index_or l i no_queue).letters) p.items ∙ still_empty c.loop.queues.items c.new.result i c.new.ensures v.empty;
      none = ap (λ l. total l) p.items ∙ total_append c.loop.queues.items c.new.result c.new.ensures ∙ v.none;
    }
