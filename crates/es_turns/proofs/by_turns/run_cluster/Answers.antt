use Rattle.std.proofs.Common.{◌∙◌, ap}
use Rattle.es_cluster.proofs.Beginning.{starts_quiet}
use Rattle.es_turns.proofs.Whole.{begins_planned}
use Rattle.es_turns.proofs.by_turns.run_cluster.Goals as goal

pub end_cluster-requires-clause-quiet : goal.end_cluster-requires-clause-quiet
end_cluster-requires-clause-quiet g c = starts_quiet c.args.plan c.in_ok-cluster.cluster c.in_ok-cluster.ensures c.requires.quiet

pub end_cluster-requires-clause-plans : goal.end_cluster-requires-clause-plans
end_cluster-requires-clause-plans g c = begins_planned c.args.plan c.in_ok-cluster.cluster c.in_ok-cluster.ensures ∙ ap (λ p. p.agents) c.requires.planned
