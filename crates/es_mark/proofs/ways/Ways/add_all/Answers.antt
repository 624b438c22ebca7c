use Rattle.std.proofs.Common.{◌∙◌, refl}
use Rattle.std.proofs.lemmas.List.{take_more}
use Rattle.es_mark.proofs.Adding.{added_nothing, added_more}
use Rattle.es_mark.proofs.ways.Ways.add_all.Goals as goal

pub loop-way-init : goal.loop-way-init
loop-way-init c = record { added = added_nothing _; room = refl }

pub loop-way-preserved : goal.loop-way-preserved
loop-way-preserved c =
    rw (take_more _ _ c.way-item.result c.loop-way-test.true, ← c.way-item.is)
    record {
      added = added_more _ _ _ _ _ c.loop-way.invariant.added c.in_ok-add.ensures.added;
      room = c.in_ok-add.ensures.room ∙ c.loop-way.invariant.room;
    }
