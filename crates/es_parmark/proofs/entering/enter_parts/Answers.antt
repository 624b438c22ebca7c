use Rattle.std.proofs.Common.{◌<◌, ℕ, length, ◌∙◌, refl}
use Rattle.std.proofs.lemmas.List.{take_more}
use Rattle.es_parmark.proofs.Gathering.{flat_map_push}
use Rattle.es_parmark.proofs.Fronts.{pairs_none, pairs_more, flat_item_has}
use Rattle.es_parmark.proofs.entering.enter_parts.Goals as goal

pub loop-part-init : goal.loop-part-init
loop-part-init c = record { step = pairs_none _ _; room = refl }

pub enter_pairs-requires : goal.enter_pairs-requires
enter_pairs-requires c =
    rw (c.as_slice.ensures.value, c.loop-part.invariant.room)
    (flat_item_has (λ p. p.pairs.items) (λ (p : ℕ × ℕ). p.1 < length c.args.reached.now.marks) _ _ c.part-item.result c.loop-part-test.true c.part-item.is c.requires)

pub loop-part-preserved : goal.loop-part-preserved
loop-part-preserved c =
    rw (take_more _ _ c.part-item.result c.loop-part-test.true, ← c.part-item.is, flat_map_push (λ p. p.pairs.items) _ c.part-item.result)
    record {
      step = pairs_more _ _ _ _ _ _ _ _ c.loop-part.invariant.step (rw c.as_slice.ensures.value at c.in_ok-enter_pairs.ensures.step);
      room = c.in_ok-enter_pairs.ensures.room ∙ c.loop-part.invariant.room;
    }
