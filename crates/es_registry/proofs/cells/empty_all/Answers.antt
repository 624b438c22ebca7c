use Rattle.std.proofs.Common.{arith}
use Rattle.es_registry.specs.Slots.{emptied}
use Rattle.es_registry.proofs.Counting.{few_awaiting}
use Rattle.es_registry.proofs.Indexing.{changed_more, emptied_again}
use Rattle.es_registry.proofs.cells.empty_all.Goals as goal

pub overflow_add-lost : goal.overflow_add-lost
overflow_add-lost c = omega (arith, few_awaiting c.empty_at-lost.new.slots.items, c.empty_at-lost.ensures.awaiting, c.loop-place.invariant.counted)

pub loop-place-preserved : goal.loop-place-preserved
loop-place-preserved c = record {
  changed = changed_more (emptied c.args.named.now) (emptied_again c.args.named.now) c.args.slots.now.items c.loop-place.slots.items c.empty_at-lost.new.slots.items c.args.places.now c.loop-place.place-index 0 (omega arith) c.loop-place.invariant.changed c.empty_at-lost.ensures.slots;
  counted = omega (arith, c.empty_at-lost.ensures.awaiting, c.loop-place.invariant.counted);
  len = omega (arith, c.empty_at-lost.ensures.len, c.loop-place.invariant.len);
  capacity = omega (arith, c.empty_at-lost.ensures.capacity, c.loop-place.invariant.capacity);
}
