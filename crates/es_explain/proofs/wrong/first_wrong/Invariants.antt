use Rattle.std.proofs.Common.{◌≡◌, ◌+◌, drop}
use Rattle.serde_json.specs.View.{items_view}
use Rattle.es_explain.specs.Causes.{first_wrong}
use Rattle.es_explain.specs.Coded.{types_of}
use Rattle.es_explain.proofs.wrong.first_wrong.Given as goal

abbrev pub invariant-loop-index : goal.invariant-loop-index
invariant-loop-index l =
    first_wrong l.code 1 (types_of l.kinds) (items_view l.operands) ≡ first_wrong l.code (l.index + 1) (types_of (drop l.index l.kinds)) (items_view l.rest)
