use Rattle.std.proofs.Common.{◌≡◌, drop}
use Rattle.serde_json.specs.View.{items_view}
use Rattle.es_reading.specs.Shape.{each}
use Rattle.es_script.proofs.shape.each.Given as goal

abbrev pub invariant-loop-value : goal.invariant-loop-value
invariant-loop-value g l = each g.I.Item.shape (items_view l.list) ≡ each g.I.Item.shape (items_view (drop l.value-index l.list))
