use Rattle.std.proofs.Common.{◌≡◌, drop}
use Rattle.serde_json.specs.View.{items_view}
use Rattle.es_reading.specs.Reading.{names_read}
use Rattle.es_reading.proofs.agent.check_each.Given as goal

abbrev pub invariant-loop-index : goal.invariant-loop-index
invariant-loop-index l =
    names_read 0 l.fn.used.items (items_view l.agents) ≡ names_read l.index l.used.items (items_view (drop l.index l.agents))
