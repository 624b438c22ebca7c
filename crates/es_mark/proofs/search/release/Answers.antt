use Rattle.std.proofs.Common.{◌∙◌, refl}
use Rattle.std.proofs.lemmas.List.{take_more}
use Rattle.es_mark.proofs.Adding.{added_nothing}
use Rattle.es_mark.proofs.Pairs.{released_more}
use Rattle.es_mark.proofs.search.release.Goals as goal

pub loop-entry-init : goal.loop-entry-init
loop-entry-init c = record { added = added_nothing _; room = refl }

pub loop-entry-preserved : goal.loop-entry-preserved
loop-entry-preserved c =
    rw (take_more _ _ c.entry-item.result c.loop-entry-test.true, ← c.entry-item.is)
    record {
      added = released_more _ _ _ _ _ _ c.loop-entry.invariant.added c.in_ok-add.ensures.added;
      room = c.in_ok-add.ensures.room ∙ c.loop-entry.invariant.room;
    }
