use Rattle.std.proofs.Common.{◌≡◌, map, drop}
use Rattle.es_script.proofs.agents.are_agents.Given as goal

-- where the names that are left are the same, all are
abbrev pub invariant-loop-index : goal.invariant-loop-index
invariant-loop-index l = map (λ x. x.name) (drop l.index l.agents) ≡ drop l.index l.names → map (λ x. x.name) l.agents ≡ l.names
