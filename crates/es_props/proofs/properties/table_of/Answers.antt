use Rattle.std.proofs.Common.{◌∙◌, sym, ap, subst, take, arith}
use Rattle.std.specs.List.{IsDistinct}
use Rattle.std.specs.Str.{bytes_eq}
use Rattle.indexmap.specs.IndexMap.{insert_entry}
use Rattle.es_props.specs.Heap.{keys_of}
use Rattle.es_props.proofs.Sought.{insert_next}
use Rattle.es_props.proofs.properties.table_of.Goals as goal

pub loop-key-preserved : goal.loop-key-preserved
loop-key-preserved c =
    let es = c.entries-entries.result.now in
    let i = c.loop-key.key-index in
    let p = c.loop-key-item.result in
    let distinct = subst (λ es. IsDistinct bytes_eq (keys_of es)) (sym c.entries-entries.ensures.same) c.entries-entries.ensures.distinct in
    record {
      so_far = c.insert_reserved.ensures.entries
          ∙ ap (λ t. insert_entry bytes_eq t c.in_ok-copy.field-0 c.in_ok-value.value) c.loop-key.invariant.so_far
          ∙ ap (λ k. insert_entry bytes_eq (take i es) k c.in_ok-value.value) c.in_ok-copy.ensures
          ∙ ap (λ v. insert_entry bytes_eq (take i es) p.0 v) c.in_ok-value.ensures
          ∙ ap (λ q. insert_entry bytes_eq (take i es) q.0 q.1) c.loop-key-item.is
          ∙ insert_next es i p distinct c.loop-key-test.true;
      room = omega (arith, c.loop-key.invariant.room, c.insert_reserved.ensures.room);
    }
