use Rattle.std.proofs.Common.{◌∙◌, ap, sym, arith}
use Rattle.es_event.specs.Waiters.{without_one}
use Rattle.es_ledger.proofs.Leaving.{at_place, none_taken, one_more, taken_here}
use Rattle.es_ledger.proofs.waiters.take_one.Goals as goal

pub returns-then-is_at : goal.returns-then-is_at
returns-then-is_at c =
    c.remove.ensures.items
    ∙ taken_here c.args.block c.args.index c.loop-place.place c.loop-place.waiters.items c.index.result.now c.loop-place.invariant.none
    (at_place c.loop-place.waiters.items c.loop-place.place c.index.result.now (omega (arith, c.loop-place-test.true, c.len-place-end.ensures)) c.index.ensures)
    (sym c.is_at.ensures ∙ c.if-is_at.true)
    ∙ ap (without_one c.args.block c.args.index) c.loop-place.invariant.same

pub loop-place-preserved : goal.loop-place-preserved
loop-place-preserved c = record {
  same = c.loop-place.invariant.same;
  none = one_more c.args.block c.args.index c.loop-place.place c.loop-place.waiters.items c.index.result.now c.loop-place.invariant.none
      (at_place c.loop-place.waiters.items c.loop-place.place c.index.result.now (omega (arith, c.loop-place-test.true, c.len-place-end.ensures)) c.index.ensures)
      (sym c.is_at.ensures ∙ c.if-is_at.false);
}

pub returns : goal.returns
returns c =
    none_taken c.args.block c.args.index c.loop-place.place c.loop-place.waiters.items c.loop-place.invariant.none (omega (arith, c.loop-place-test.false, c.len-place-end.ensures))
    ∙ ap (without_one c.args.block c.args.index) c.loop-place.invariant.same
