use Rattle.std.proofs.Common.{◌≡◌, ◌++◌, drop}
use Rattle.es_warnings.specs.Warnings.{of_agents, warnings}
use Rattle.es_warnings.proofs.warning.warnings_of.Given as goal

abbrev pub invariant-loop-agent : goal.invariant-loop-agent
invariant-loop-agent l = warnings l.plan ≡ l.found.items ++ of_agents l.agent (drop l.agent l.plan.agents)
