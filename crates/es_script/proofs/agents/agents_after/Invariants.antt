use Rattle.std.proofs.Common.{◌≡◌, ◌≤◌, List, ◌++◌, length}
use Rattle.json.specs.Token.{Token}
use Rattle.es_value.specs.Limits.{most_agents}
use Rattle.es_event.specs.declared.plan.AgentPlan.{AgentPlan}
use Rattle.es_reading.specs.Reading.{numbered, agents_read}
use Rattle.es_reading.specs.Shape.{is_agent}
use Rattle.es_script.specs.Taking.{TookItems}
use Rattle.es_script.proofs.agents.agents_after.Given as goal

-- whatever agents are left, those so far come before them
abbrev pub invariant-agents : goal.invariant-agents
invariant-agents l = record {
  taken : (r : List Token) (ps : List AgentPlan) → TookItems 5 is_agent (agents_read l.version (numbered l.numbers) l.number) l.reader ps r → TookItems 5 is_agent (agents_read l.version (numbered l.numbers) 0) l.fn.reader (l.agents ++ ps) r;
  counted : length l.agents ≡ l.number;
  few : l.number ≤ most_agents;
}

abbrev pub decreases-agents : goal.decreases-agents
decreases-agents l = length l.reader
