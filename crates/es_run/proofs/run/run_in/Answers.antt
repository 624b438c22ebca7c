use Rattle.std.proofs.Common.{◌∙◌, ap, map, length}
use Rattle.es_event.specs.declared.plan.Plan.{Plan}
use Rattle.es_cluster.proofs.Beginning.{first_names}
use Rattle.es_cluster.specs.State.{ClusterView, names_of}
use Rattle.es_run.proofs.run.run_in.Goals as goal

pub outcome_of-requires-clause-names : goal.outcome_of-requires-clause-names
outcome_of-requires-clause-names g c κs within =
    c.into_parts-members.ensures.names
    ∙ ap (λ (s : ClusterView). names_of s.agents) c.in_ok-new.ensures
    ∙ first_names (length c.args.plan.agents) 0 c.args.plan.agents
    ∙ ap (λ (p : Plan). map (λ a. a.name) p.agents) c.requires.planned
