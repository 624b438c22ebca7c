use Rattle.std.proofs.Common.{◌<◌, sym, ◌∙◌, subst, true, arith}
use Rattle.es_cluster.proofs.Finishing.{asleep_same, cleaning_unrested, falls_asleep, goes_asleep, goes_more, still_awake, sweeps_on, swept, turned_length, works_moved}
use Rattle.es_cluster.proofs.Watching.{kept_on, kept_slept, kept_then}
use Rattle.es_cluster.proofs.cluster.ClusterCore.clean_up.Goals as goal

pub loop-self-preserved : goal.loop-self-preserved
loop-self-preserved g c =
    let p = c.in_ok-advance.field-0 in
    let up = sym c.is_cleaning.ensures ∙ c.loop-self-test.true in
    let busy = cleaning_unrested c.args.agent c.loop-self.self up in
    let moved = c.in-Moved.is in
    let turned = c.in_ok-advance.ensures.turned in
    let less = works_moved p c.args.agent c.loop-self.self c.advance.new.self true up moved c.in_ok-advance.ensures.works in
    let before = c.loop-self.invariant.less in
    let first = less.1 in
    record {
      known = subst (λ n. c.args.agent < n) (sym (turned_length p c.args.agent c.loop-self.self c.advance.new.self turned)) c.loop-self.invariant.known;
      size = c.in_ok-advance.ensures.agents ∙ c.loop-self.invariant.size;
      whole = turned.whole.1;
      plans = c.in_ok-advance.ensures.plans ∙ c.loop-self.invariant.plans;
      awake = still_awake p c.args.agent c.loop-self.self c.advance.new.self moved c.in_ok-advance.ensures.hears;
      watched = kept_then _ _ _ _ _ _ _ _ _ _ _ c.loop-self.invariant.watched (kept_on _ _ p c.args.agent c.loop-self.self c.advance.new.self c.loop-self.watcher c.advance.new.watcher turned c.in_ok-advance.ensures.told c.in_ok-advance.ensures.known busy moved);
      goes = goes_more p c.args.agent c.args.self.now c.loop-self.self c.advance.new.self c.loop-self.invariant.goes busy moved turned;
      swept = λ sweeps. sweeps_on p c.args.agent c.loop-self.self c.advance.new.self up moved c.in_ok-advance.ensures.works;
      same = less.0 ∙ c.loop-self.invariant.same;
      less = omega (arith, before, first);
    }

pub loop-self-smaller : goal.loop-self-smaller
loop-self-smaller g c =
    let p = c.in_ok-advance.field-0 in
    let up = sym c.is_cleaning.ensures ∙ c.loop-self-test.true in
    (works_moved p c.args.agent c.loop-self.self c.advance.new.self true up c.in-Moved.is c.in_ok-advance.ensures.works).1

pub returns-in-Waiting-clause-goes : goal.returns-in-Waiting-clause-goes
returns-in-Waiting-clause-goes g c =
    let p = c.in_ok-advance.field-0 in
    let busy = cleaning_unrested c.args.agent c.loop-self.self (sym c.is_cleaning.ensures ∙ c.loop-self-test.true) in
    let begins = falls_asleep p c.args.agent c.loop-self.self c.advance.new.self c.in-Waiting.is busy c.loop-self.invariant.awake c.in_ok-advance.ensures.turned c.in_ok-advance.ensures.works in
    goes_asleep c.args.agent c.args.self.now c.loop-self.self c.advance.new.self c.loop-self.invariant.goes busy begins

pub returns-in-Waiting-clause-watched : goal.returns-in-Waiting-clause-watched
returns-in-Waiting-clause-watched g c =
    let p = c.in_ok-advance.field-0 in
    let busy = cleaning_unrested c.args.agent c.loop-self.self (sym c.is_cleaning.ensures ∙ c.loop-self-test.true) in
    let begins = falls_asleep p c.args.agent c.loop-self.self c.advance.new.self c.in-Waiting.is busy c.loop-self.invariant.awake c.in_ok-advance.ensures.turned c.in_ok-advance.ensures.works in
    kept_then _ _ _ _ _ _ _ _ _ _ _ c.loop-self.invariant.watched (kept_slept _ _ p c.args.agent c.loop-self.self c.advance.new.self c.loop-self.watcher c.advance.new.watcher c.in_ok-advance.ensures.turned c.in_ok-advance.ensures.told c.in_ok-advance.ensures.known busy c.in-Waiting.is begins)

pub returns-in-Waiting-clause-less : goal.returns-in-Waiting-clause-less
returns-in-Waiting-clause-less g c =
    let p = c.in_ok-advance.field-0 in
    let busy = cleaning_unrested c.args.agent c.loop-self.self (sym c.is_cleaning.ensures ∙ c.loop-self-test.true) in
    let begins = falls_asleep p c.args.agent c.loop-self.self c.advance.new.self c.in-Waiting.is busy c.loop-self.invariant.awake c.in_ok-advance.ensures.turned c.in_ok-advance.ensures.works in
    let same = asleep_same c.args.agent c.loop-self.self c.advance.new.self begins in
    let queue = same.1 in
    let before = c.loop-self.invariant.less in
    (same.0 ∙ c.loop-self.invariant.same, omega (arith, queue, before), same.2)

pub returns-clause-goes : goal.returns-clause-goes
returns-clause-goes g c =
    let clean = sym c.is_cleaning.ensures ∙ c.loop-self-test.false in
    (c.loop-self.invariant.goes, clean, c.loop-self.invariant.awake, λ sweeps. swept c.args.agent c.loop-self.self clean (c.loop-self.invariant.swept sweeps))

pub returns-in-Waiting-clause-agents : goal.returns-in-Waiting-clause-agents
returns-in-Waiting-clause-agents g c = c.in_ok-advance.ensures.agents ∙ c.loop-self.invariant.size

pub returns-in-Waiting-clause-plans : goal.returns-in-Waiting-clause-plans
returns-in-Waiting-clause-plans g c = c.in_ok-advance.ensures.plans ∙ c.loop-self.invariant.plans
