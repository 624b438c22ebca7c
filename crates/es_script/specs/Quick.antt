-- Internal: the agents of a plan's text, and its value.
use Rattle.std.specs.Prelude.{◌≡◌, ◌≤◌, true, List, length, codes, Some, Ok}
use Rattle.serde_json.specs.Data.{Data, number, unsigned}
use Rattle.serde_json.specs.Find.{get}
use Rattle.es_value.specs.Limits.{most_agents}
use Rattle.es_event.specs.declared.plan.AgentPlan.{AgentPlan}
use Rattle.es_reading.specs.declared.version.Version.{Version}
use Rattle.es_reading.specs.Versions.{number_of_version}
use Rattle.es_reading.specs.Parts.{items_in}
use Rattle.es_reading.specs.Shape.{is_plan}
use Rattle.es_reading.specs.Reading.{all_read}

-- a plan's value, of whose agents these are read in its version, at least one and within the limit
pub record IsPlanValue (d : Data) (agents : List AgentPlan) : Type 0 where
  pub shaped : is_plan d ≡ true
  pub version : Version
  pub numbered : get (codes "version") d ≡ Some (number (unsigned (number_of_version version)))
  pub read : all_read version (items_in (get (codes "agents") d)) ≡ Ok agents
  pub some : 1 ≤ length agents
  pub few : length agents ≤ most_agents
