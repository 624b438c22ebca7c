use Rattle.std.proofs.Common.{[]}
use Rattle.es_why.specs.Leads.{LeadsTo}
use Rattle.es_why.proofs.Sources.{ordered_led, all_told}
use Rattle.es_why.proofs.Told.{values_within}
use Rattle.es_why.proofs.kept.weakly_kept.Goals as goal

pub ways_for-requires : goal.ways_for-requires
ways_for-requires c =
    rw c.as_slice-ways.ensures.value
    (values_within c.args.agent.now.over c.args.agent.now c.args.reasons.now.names.items c.history.ensures.run.0 c.identities.result c.identities.ensures.made
    c.args.reasons.now.ways.list.items c.requires.ordered)

pub kept_by-requires : goal.kept_by-requires
kept_by-requires c =
    rw (c.as_slice.ensures.value, c.as_slice-2.ensures.value, c.in_ok-chosen.ensures, c.as_slice-ways.ensures.value)
    (all_told (λ w. LeadsTo c.args.agent.now c.args.reasons.now.names.items w.step w.value) _ c.args.reasons.now.ways.list.items
    (ordered_led (LeadsTo c.args.agent.now c.args.reasons.now.names.items) [] c.args.reasons.now.ways.list.items c.requires.ordered))
