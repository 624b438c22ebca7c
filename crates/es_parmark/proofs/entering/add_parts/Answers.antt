use Rattle.std.proofs.Common.{◌<◌, length, ◌∙◌, refl}
use Rattle.std.proofs.lemmas.List.{take_more}
use Rattle.es_mark.proofs.Listed.{added_nothing, added_more}
use Rattle.es_parmark.proofs.Gathering.{flat_map_push}
use Rattle.es_parmark.proofs.Fronts.{flat_item_has}
use Rattle.es_parmark.proofs.entering.add_parts.Goals as goal

pub loop-part-init : goal.loop-part-init
loop-part-init c = record { added = added_nothing _; room = refl }

pub add_all-requires : goal.add_all-requires
add_all-requires c =
    rw (c.as_slice.ensures.value, c.loop-part.invariant.room) (flat_item_has (λ p. p.ids.items) (λ i. i < length c.args.reached.now.marks) _ _ c.part-item.result c.loop-part-test.true c.part-item.is c.requires)

pub loop-part-preserved : goal.loop-part-preserved
loop-part-preserved c =
    rw (take_more _ _ c.part-item.result c.loop-part-test.true, ← c.part-item.is, flat_map_push (λ p. p.ids.items) _ c.part-item.result)
    record {
      added = added_more _ _ _ _ _ c.loop-part.invariant.added (rw c.as_slice.ensures.value at c.in_ok-add_all.ensures.added);
      room = c.in_ok-add_all.ensures.room ∙ c.loop-part.invariant.room;
    }
