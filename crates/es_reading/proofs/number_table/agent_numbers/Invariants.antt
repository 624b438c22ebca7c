use Rattle.std.proofs.Common.{◌≡◌, ℕ, List, drop}
use Rattle.serde_json.specs.View.{items_view}
use Rattle.es_reading.specs.Scope.{agent_from}
use Rattle.es_reading.specs.Reading.{numbered, or_else}
use Rattle.es_reading.proofs.number_table.agent_numbers.Given as goal

abbrev pub invariant-loop-index : goal.invariant-loop-index
invariant-loop-index l =
    (n : List ℕ) → agent_from 0 (items_view l.agents) n ≡ or_else (numbered l.numbers n) (agent_from l.index (items_view (drop l.index l.agents)) n)
