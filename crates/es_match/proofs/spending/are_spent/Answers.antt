use Rattle.es_match.specs.DeedsShown.{all_shown}
use Rattle.es_match.proofs.Counting.{go_on}
use Rattle.es_match.proofs.spending.are_spent.Goals as goal

pub loop-i-preserved : goal.loop-i-preserved
loop-i-preserved c = go_on c.args.closing c.args.serials.now (all_shown c.args.deeds.now) c.args.deeds.now c.loop-i.i
    c.in-Spend.serial _ c.loop-i.left
    c.strike.new.self c.in_ok-there.there c.in-Spend.is c.loop-i-test.true c.loop-i.invariant c.in_ok-there.ensures
    c.if-not-there.false
