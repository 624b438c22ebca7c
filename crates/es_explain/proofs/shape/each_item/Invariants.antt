use Rattle.std.proofs.Common.{◌≡◌, drop}
use Rattle.serde_json.specs.View.{items_view}
use Rattle.es_explain.specs.Misshapen.{each_item}
use Rattle.es_explain.proofs.shape.each_item.Given as goal

abbrev pub invariant-loop-index : goal.invariant-loop-index
invariant-loop-index g l = each_item g.P.Part.fault 0 (items_view l.list) ≡ each_item g.P.Part.fault l.index-counter (items_view (drop l.index-counter l.list))
