use Rattle.std.proofs.Common.{◌<◌, ℕ, length, ◌∙◌, refl}
use Rattle.std.proofs.lemmas.List.{take_more}
use Rattle.es_parmark.proofs.Fronts.{pairs_none, pairs_more, item_has}
use Rattle.es_parmark.proofs.entering.enter_pairs.Goals as goal

pub loop-pair-init : goal.loop-pair-init
loop-pair-init c = record { step = pairs_none _ _; room = refl }

pub enter_pair-requires : goal.enter_pair-requires
enter_pair-requires c =
    rw c.loop-pair.invariant.room (item_has (λ (p : ℕ × ℕ). p.1 < length c.args.reached.now.marks) _ _ c.pair-item.result c.loop-pair-test.true c.pair-item.is c.requires)

pub loop-pair-preserved : goal.loop-pair-preserved
loop-pair-preserved c =
    rw (take_more _ _ c.pair-item.result c.loop-pair-test.true, ← c.pair-item.is)
    record {
      step = pairs_more _ _ _ _ _ _ _ _ c.loop-pair.invariant.step c.in_ok-enter_pair.ensures.step;
      room = c.in_ok-enter_pair.ensures.room ∙ c.loop-pair.invariant.room;
    }
