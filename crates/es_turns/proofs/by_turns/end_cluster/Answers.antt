use Rattle.std.proofs.Common.{◌∙◌}
use Rattle.es_turns.proofs.Whole.{outcome_of, tallies_of_outcome}
use Rattle.es_turns.proofs.by_turns.end_cluster.Goals as goal

pub returns-in-Some-clause-outcome : goal.returns-in-Some-clause-outcome
returns-in-Some-clause-outcome g c =
    outcome_of g.L.Planned.plan c.run_to_end.new.cluster c.in-Some.outcome (c.in-Ok.ensures.plans ∙ c.requires.plans) c.in-Ok.ensures.number c.in-Some.ensures.outcome

pub of_ended-counts-requires-clause-none_left : goal.of_ended-counts-requires-clause-none_left
of_ended-counts-requires-clause-none_left g c = c.in-Some.ensures.outcome.tickets

pub of_ended-counts-requires-clause-tallies : goal.of_ended-counts-requires-clause-tallies
of_ended-counts-requires-clause-tallies g c = tallies_of_outcome c.run_to_end.new.cluster c.in-Some.outcome c.in-Ok.tallies.items c.in-Some.ensures.outcome c.in-Ok.ensures.tallies
