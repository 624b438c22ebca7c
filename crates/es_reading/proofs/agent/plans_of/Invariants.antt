use Rattle.std.proofs.Common.{◌≡◌, drop}
use Rattle.serde_json.specs.View.{items_view}
use Rattle.es_reading.specs.Reading.{numbered, agents_read, after}
use Rattle.es_reading.proofs.agent.plans_of.Given as goal

abbrev pub invariant-loop-index : goal.invariant-loop-index
invariant-loop-index l =
    agents_read l.version (numbered l.numbers) 0 (items_view l.fn.agents) ≡ after l.plans (agents_read l.version (numbered l.numbers) l.index (items_view (drop l.index l.agents)))
