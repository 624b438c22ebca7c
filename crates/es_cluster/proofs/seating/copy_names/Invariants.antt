use Rattle.std.proofs.Common.{◌≡◌, map, take}
use Rattle.es_cluster.proofs.seating.copy_names.Given as goal

abbrev pub invariant-loop-plan : goal.invariant-loop-plan
invariant-loop-plan l = l.names ≡ map (λ p. p.name) (take l.plan-index l.plans)
