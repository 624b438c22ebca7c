use Rattle.std.proofs.Common.{arith}
use Rattle.es_registry.specs.Slots.{unregistered_by}
use Rattle.es_registry.proofs.Indexing.{changed_more, unregistered_again, waits_more}
use Rattle.es_registry.proofs.unregistering.take_out.Goals as goal

pub loop-place-preserved : goal.loop-place-preserved
loop-place-preserved c = record {
  changed = changed_more (unregistered_by c.args.registry c.args.token) (unregistered_again c.args.registry c.args.token) c.args.cells.now.all c.loop-place.cells.all c.take_out_at.new.cells.all c.args.places.now c.loop-place.place-index 0 (omega arith) c.loop-place.invariant.changed c.take_out_at.ensures.cells;
  waited = waits_more c.args.registry c.args.token c.args.cells.now.all c.loop-place.cells.all c.args.waiting.now c.loop-place.waiting c.take_out_at.new.waiting c.args.places.now c.loop-place.place-index 0 (omega arith) c.loop-place.invariant.changed c.loop-place.invariant.waited c.take_out_at.ensures.waiting;
}
