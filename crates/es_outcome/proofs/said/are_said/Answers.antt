use Rattle.std.proofs.Common.{arith, ap, sym, ◌∙◌}
use Rattle.es_outcome.specs.Said.{told_of}
use Rattle.es_outcome.proofs.Telling.{same_more}
use Rattle.es_outcome.proofs.said.are_said.Goals as goal

pub loop-place-preserved : goal.loop-place-preserved
loop-place-preserved c =
    let inside = c.loop-place-test.true in
    let size = c.if-came-said.false in
    same_more c.args.came.now c.args.said.now c.loop-place.place _ _ (omega (arith, inside, size)) inside c.loop-place.invariant
    (ap told_of (sym c.index-came-place.is) ∙ c.is_what_came.ensures.0 c.if-not-is_what_came.false ∙ c.index-said-place.is)
