use Rattle.std.proofs.Common.{◌∙◌, ap, sym, arith}
use Rattle.es_match.specs.DeedsShown.{all_shown}
use Rattle.es_match.proofs.Lists.{none_left, one_taken}
use Rattle.es_match.proofs.going.take_next.Goals as goal

pub returns-in-None-clause-taken : goal.returns-in-None-clause-taken
returns-in-None-clause-taken c =
    c.loop.invariant.taken ∙ (none_left c.loop.counter c.args.count c.args.rest.now (sym c.loop.invariant.left ∙ c.in-None.ensures.0) (omega arith)).0

pub returns-in-None-clause-left : goal.returns-in-None-clause-left
returns-in-None-clause-left c =
    c.in-None.ensures.1 ∙ sym (none_left c.loop.counter c.args.count c.args.rest.now (sym c.loop.invariant.left ∙ c.in-None.ensures.0) (omega arith)).1

pub loop-preserved : goal.loop-preserved
loop-preserved c =
    let one = one_taken c.loop.counter c.args.rest.now c.loop.rest c.next.new.self c.loop.deeds.items c.in-Some.deed c.loop.invariant.taken c.loop.invariant.left c.in-Some.ensures in
    record { taken = ap all_shown c.in_ok-push-in-Some.ensures.items ∙ one.0; left = one.1 }
