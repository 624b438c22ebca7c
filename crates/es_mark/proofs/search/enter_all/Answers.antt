use Rattle.std.proofs.Common.{◌∙◌, refl}
use Rattle.std.proofs.lemmas.List.{take_more}
use Rattle.es_mark.proofs.Entering.{entered_nothing, entered_more}
use Rattle.es_mark.proofs.search.enter_all.Goals as goal

pub loop-entry-init : goal.loop-entry-init
loop-entry-init c = record { entered = entered_nothing _ _ _ _; room = refl }

pub loop-entry-preserved : goal.loop-entry-preserved
loop-entry-preserved c =
    rw (take_more _ _ c.entry-item.result c.loop-entry-test.true, ← c.entry-item.is)
    record {
      entered = entered_more _ _ _ _ _ _ _ _ _ _ c.requires.within c.loop-entry.invariant.entered c.in_ok-enter.ensures.entered;
      room = c.in_ok-enter.ensures.room ∙ c.loop-entry.invariant.room;
    }
