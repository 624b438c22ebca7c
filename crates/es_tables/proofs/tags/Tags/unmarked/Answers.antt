use Rattle.es_tables.proofs.Passing.{one_more}
use Rattle.es_tables.proofs.tags.Tags.unmarked.Goals as goal

pub loop-at-preserved : goal.loop-at-preserved
loop-at-preserved c = one_more _ c.loop-at.at _ _ _ _ c.loop-at.invariant c.of-id.ensures c.is_left.ensures c.in_ok-add_if.ensures
