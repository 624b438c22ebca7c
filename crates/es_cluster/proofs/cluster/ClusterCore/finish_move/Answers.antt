use Rattle.std.proofs.Common.{◌<◌, sym, ◌∙◌, subst, false, arith}
use Rattle.std.specs.Prelude.{None, if◌then◌else◌}
use Rattle.es_cluster.specs.Asked.{CleansUp}
use Rattle.es_cluster.specs.Moves.{rested}
use Rattle.es_cluster.proofs.Finishing.{asleep_same, falls_asleep, goes_asleep, goes_more, works_moved}
use Rattle.es_cluster.proofs.Watching.{busy_no_more, kept_on, kept_slept, kept_then}
use Rattle.es_cluster.specs.Watched.{busy as busy_of}
use Rattle.es_cluster.specs.Watching.{IsKept}
use Rattle.es_cluster.proofs.cluster.ClusterCore.finish_move.Goals as goal

pub returns-clause-rests : goal.returns-clause-rests
returns-clause-rests g c = c.loop-self.invariant.goes c.loop-self.self (rested (sym c.is_at_rest.ensures ∙ c.loop-self-test.false))

pub returns-clause-watched : goal.returns-clause-watched
returns-clause-watched g c =
    let rests = sym c.is_at_rest.ensures ∙ c.loop-self-test.false in
    subst (λ o. IsKept g.W.Watcher.knows g.W.Watcher.tells (busy_of c.args.agent c.args.self.now) o c.args.self.now c.loop-self.self c.args.watcher.now c.loop-self.watcher) (busy_no_more c.args.agent c.loop-self.self rests) c.loop-self.invariant.watched

pub returns-then-branch-2-clause-rests : goal.returns-then-branch-2-clause-rests
returns-then-branch-2-clause-rests g c =
    let busy = sym c.is_at_rest.ensures ∙ c.loop-self-test.true in
    goes_more c.in_ok-advance.field-0 c.args.agent c.args.self.now c.loop-self.self c.advance.new.self c.loop-self.invariant.goes busy c.in-Moved.is c.in_ok-advance.ensures.turned c.clean_up-in-Moved.new.self
    (subst (λ b. CleansUp b c.args.agent c.advance.new.self c.clean_up-in-Moved.new.self) c.if-branch-2.true c.in_ok-clean_up-in-Moved.ensures.goes)

pub returns-then-branch-2-clause-watched : goal.returns-then-branch-2-clause-watched
returns-then-branch-2-clause-watched g c =
    let busy = sym c.is_at_rest.ensures ∙ c.loop-self-test.true in
    kept_then _ _ _ _ _ _ _ _ _ _ _ c.loop-self.invariant.watched
    (kept_then _ _ _ _ _ _ _ _ _ _ _ (kept_on _ _ c.in_ok-advance.field-0 c.args.agent c.loop-self.self c.advance.new.self c.loop-self.watcher c.advance.new.watcher c.in_ok-advance.ensures.turned c.in_ok-advance.ensures.told c.in_ok-advance.ensures.known busy c.in-Moved.is)
    (subst (λ b. IsKept g.W.Watcher.knows g.W.Watcher.tells (busy_of c.args.agent c.advance.new.self) (if b then None else busy_of c.args.agent c.clean_up-in-Moved.new.self) c.advance.new.self c.clean_up-in-Moved.new.self c.advance.new.watcher c.clean_up-in-Moved.new.watcher) c.if-branch-2.true c.in_ok-clean_up-in-Moved.ensures.watched))

pub returns-then-branch-2-clause-less : goal.returns-then-branch-2-clause-less
returns-then-branch-2-clause-less g c =
    let first = works_moved c.in_ok-advance.field-0 c.args.agent c.loop-self.self c.advance.new.self false c.loop-self.invariant.clean c.in-Moved.is c.in_ok-advance.ensures.works in
    let next = c.in_ok-clean_up-in-Moved.ensures.less.0 in
    let before = c.loop-self.invariant.less in
    (omega (arith, first, next, before), c.in_ok-clean_up-in-Moved.ensures.less.2)

pub returns-then-branch-2-clause-agents : goal.returns-then-branch-2-clause-agents
returns-then-branch-2-clause-agents g c = c.in_ok-clean_up-in-Moved.ensures.agents ∙ c.in_ok-advance.ensures.agents ∙ c.loop-self.invariant.size

pub loop-self-preserved : goal.loop-self-preserved
loop-self-preserved g c =
    let p = c.in_ok-advance.field-0 in
    let busy = sym c.is_at_rest.ensures ∙ c.loop-self-test.true in
    let turned = c.in_ok-advance.ensures.turned in
    let first = works_moved p c.args.agent c.loop-self.self c.advance.new.self false c.loop-self.invariant.clean c.in-Moved.is c.in_ok-advance.ensures.works in
    let cleaned = c.in_ok-clean_up-in-Moved.ensures in
    let done = subst (λ b. CleansUp b c.args.agent c.advance.new.self c.clean_up-in-Moved.new.self) c.if-branch-2.false cleaned.goes in
    let next = cleaned.less.0 in
    let before = c.loop-self.invariant.less in
    record {
      known = subst (λ n. c.args.agent < n) (sym (cleaned.agents ∙ c.in_ok-advance.ensures.agents)) c.loop-self.invariant.known;
      size = cleaned.agents ∙ c.in_ok-advance.ensures.agents ∙ c.loop-self.invariant.size;
      whole = cleaned.less.2;
      plans = cleaned.plans ∙ c.in_ok-advance.ensures.plans ∙ c.loop-self.invariant.plans;
      clean = done.1;
      awake = done.2;
      watched = kept_then _ _ _ _ _ _ _ _ _ _ _ c.loop-self.invariant.watched
          (kept_then _ _ _ _ _ _ _ _ _ _ _ (kept_on _ _ p c.args.agent c.loop-self.self c.advance.new.self c.loop-self.watcher c.advance.new.watcher turned c.in_ok-advance.ensures.told c.in_ok-advance.ensures.known busy c.in-Moved.is)
          (subst (λ b. IsKept g.W.Watcher.knows g.W.Watcher.tells (busy_of c.args.agent c.advance.new.self) (if b then None else busy_of c.args.agent c.clean_up-in-Moved.new.self) c.advance.new.self c.clean_up-in-Moved.new.self c.advance.new.watcher c.clean_up-in-Moved.new.watcher) c.if-branch-2.false cleaned.watched));
      goes = λ end rest. goes_more p c.args.agent c.args.self.now c.loop-self.self c.advance.new.self c.loop-self.invariant.goes busy c.in-Moved.is turned end (done.0 end rest);
      less = omega (arith, first, next, before);
    }

pub loop-self-smaller : goal.loop-self-smaller
loop-self-smaller g c =
    let first = works_moved c.in_ok-advance.field-0 c.args.agent c.loop-self.self c.advance.new.self false c.loop-self.invariant.clean c.in-Moved.is c.in_ok-advance.ensures.works in
    let next = c.in_ok-clean_up-in-Moved.ensures.less.0 in
    omega (arith, first, next)

pub returns-in-Waiting-clause-rests : goal.returns-in-Waiting-clause-rests
returns-in-Waiting-clause-rests g c =
    let busy = sym c.is_at_rest.ensures ∙ c.loop-self-test.true in
    let begins = falls_asleep c.in_ok-advance.field-0 c.args.agent c.loop-self.self c.advance.new.self c.in-Waiting.is busy c.loop-self.invariant.awake c.in_ok-advance.ensures.turned c.in_ok-advance.ensures.works in
    goes_asleep c.args.agent c.args.self.now c.loop-self.self c.advance.new.self c.loop-self.invariant.goes busy begins

pub returns-in-Waiting-clause-watched : goal.returns-in-Waiting-clause-watched
returns-in-Waiting-clause-watched g c =
    let busy = sym c.is_at_rest.ensures ∙ c.loop-self-test.true in
    let begins = falls_asleep c.in_ok-advance.field-0 c.args.agent c.loop-self.self c.advance.new.self c.in-Waiting.is busy c.loop-self.invariant.awake c.in_ok-advance.ensures.turned c.in_ok-advance.ensures.works in
    kept_then _ _ _ _ _ _ _ _ _ _ _ c.loop-self.invariant.watched (kept_slept _ _ c.in_ok-advance.field-0 c.args.agent c.loop-self.self c.advance.new.self c.loop-self.watcher c.advance.new.watcher c.in_ok-advance.ensures.turned c.in_ok-advance.ensures.told c.in_ok-advance.ensures.known busy c.in-Waiting.is begins)

pub returns-in-Waiting-clause-less : goal.returns-in-Waiting-clause-less
returns-in-Waiting-clause-less g c =
    let busy = sym c.is_at_rest.ensures ∙ c.loop-self-test.true in
    let begins = falls_asleep c.in_ok-advance.field-0 c.args.agent c.loop-self.self c.advance.new.self c.in-Waiting.is busy c.loop-self.invariant.awake c.in_ok-advance.ensures.turned c.in_ok-advance.ensures.works in
    let same = asleep_same c.args.agent c.loop-self.self c.advance.new.self begins in
    let plan = same.0 in
    let before = c.loop-self.invariant.less in
    (omega (arith, plan, before), same.2)

pub returns-in-Waiting-clause-plans : goal.returns-in-Waiting-clause-plans
returns-in-Waiting-clause-plans g c = c.in_ok-advance.ensures.plans ∙ c.loop-self.invariant.plans

pub returns-in-Waiting-clause-agents : goal.returns-in-Waiting-clause-agents
returns-in-Waiting-clause-agents g c = c.in_ok-advance.ensures.agents ∙ c.loop-self.invariant.size
