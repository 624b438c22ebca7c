use Rattle.std.proofs.Common.{◌≡◌, true, [], take}
use Rattle.std.proofs.lemmas.List.{take_more}
use Rattle.es_mark.specs.Graph.{HasAll}
use Rattle.es_parmark.proofs.Gathering.{gathered_nothing, gathered_more}
use Rattle.es_parmark.proofs.expanding.gather.Goals as goal

pub loop-id-init : goal.loop-id-init
loop-id-init c = gathered_nothing _ (λ _. true) (λ t i. t i ≡ true) (HasAll []) _ (λ t w. tt)

pub loop-id-preserved : goal.loop-id-preserved
loop-id-preserved c =
    rw (take_more _ _ c.id-item.result c.loop-id-test.true, ← c.id-item.is)
    (gathered_more _ (λ _. true) (λ t i. t i ≡ true) (λ i t. t i ≡ true) (take c.loop-id.id-index c.args.ids.now) _ _ _ _ c.loop-id.invariant c.in_ok-gather_one.ensures)
