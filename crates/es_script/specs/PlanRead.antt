-- Internal: reading a whole plan, as the code does: the plan, or the first fault in it.
use Rattle.std.specs.Prelude.{◌&&◌, List, [], Option, Some, None, Result, Ok, Err, codes, nat_le}
use Rattle.serde_json.specs.Data.{Data, Items}
use Rattle.serde_json.specs.Find.{get}
use Rattle.serde_json.specs.Events.{items_len}
use Rattle.es_value.specs.Limits.{most_agents}
use Rattle.es_event.specs.declared.plan.AgentPlan.{AgentPlan}
use Rattle.es_event.specs.declared.plan.Plan.{Plan}
use Rattle.es_reading.specs.declared.fault.FaultCode.TheVariants.{Shape, Version as WrongVersion, AgentCount}
use Rattle.es_reading.specs.declared.fault.Place.TheVariants.{Whole}
use Rattle.es_reading.specs.declared.fault.ScriptFault.{ScriptFault}
use Rattle.es_reading.specs.declared.version.Version.{Version}
use Rattle.es_reading.specs.Places.{at}
use Rattle.es_reading.specs.Parts.{items_in}
use Rattle.es_reading.specs.Scope.{agent_from}
use Rattle.es_reading.specs.Reading.{then_read, unless_fault, names_read, agents_read}
use Rattle.es_reading.specs.Shape.{is_plan}
use Rattle.es_script.specs.Fault.{version_in}

abbrev pub agents_checked : Version → Items → Result (List AgentPlan) ScriptFault
agents_checked v ds =
    unless_fault (nat_le 1 (items_len ds) && nat_le (items_len ds) most_agents) (at Whole 0 AgentCount) (then_read (names_read 0 [] ds) (λ _. agents_read v (agent_from 0 ds) 0 ds))

abbrev pub versioned_read : Option Version → Items → Result Plan ScriptFault
versioned_read None ds = Err (at Whole 0 WrongVersion)
versioned_read (Some v) ds = then_read (agents_checked v ds) (λ plans. Ok (record { agents = plans }))

abbrev pub plan_read : Data → Result Plan ScriptFault
plan_read d = unless_fault (is_plan d) (at Whole 0 Shape) (versioned_read (version_in d) (items_in (get (codes "agents") d)))
