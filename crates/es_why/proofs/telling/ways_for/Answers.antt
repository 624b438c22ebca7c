use Rattle.std.proofs.Common.{ℕ, ◌-◌, ◌+◌, ap, arith, ◌∙◌, length}
use Rattle.std.proofs.Math.ListN.{get_or}
use Rattle.es_why.specs.Flags.{is_set}
use Rattle.es_why.proofs.Sources.{chosen_more}
use Rattle.es_why.proofs.telling.ways_for.Goals as goal

pub loop-after-preserved : goal.loop-after-preserved
loop-after-preserved c =
    let all : ℕ = length c.args.ways.now in
    let past = c.loop-after-test.true in
    chosen_more (is_set c.args.told.now) c.args.made c.args.ways.now (all - (c.loop-after.after + 1)) (all - c.loop-after.after) c.index-ways-ways.result c.is_told-tells.result _ _ _ _
    (omega (arith, past)) (omega (arith, past))
    (c.index-ways-ways.is ∙ ap (λ (n : ℕ). get_or c.args.ways.now n c.index-ways-ways.result) (omega arith))
    c.requires c.loop-after.invariant c.is_told-tells.ensures c.in_ok-choose.ensures.needed c.in_ok-choose.ensures.chosen
