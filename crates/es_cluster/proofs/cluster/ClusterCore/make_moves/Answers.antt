use Rattle.std.proofs.Common.{◌<◌, None, ◌∙◌, subst}
use Rattle.std.proofs.lemmas.Bool.{not-true}
use Rattle.es_cluster.specs.Asked.{BeginsMove, plans_left}
use Rattle.es_cluster.specs.Watching.{IsKept, begun}
use Rattle.es_cluster.specs.Watched.{busy}
use Rattle.es_cluster.proofs.Finishing.{cleaned_busy, cleaned_less, cleaned_rest, move_on, moved_less, not_false, runs_out}
use Rattle.es_cluster.proofs.Watching.{kept_then}
use Rattle.es_cluster.proofs.cluster.ClusterCore.make_moves.Goals as goal

pub loop-begun-preserved : goal.loop-begun-preserved
loop-begun-preserved g c =
    let first = subst (λ o. BeginsMove o c.loop-begun.self c.begin_move.new.self) c.in-Some.is c.in_ok-begun.ensures.begins in
    let sweeps = first.swept (not_false c.in-Some.begun.cleans c.if-not-begun.false) in
    let rest = cleaned_rest c.in_ok-clean_up.field-0 c.in-Some.begun.agent c.begin_move.new.self c.clean_up.new.self sweeps c.in_ok-clean_up.ensures.goes in
    let less = c.in_ok-clean_up.ensures.less in
    let left = cleaned_less c.in-Some.begun c.loop-begun.self c.begin_move.new.self c.clean_up.new.self first (not_false c.in-Some.begun.cleans c.if-not-begun.false) rest less.0 less.1 in
    record {
      whole = less.2;
      plans = c.in_ok-clean_up.ensures.plans ∙ c.in_ok-begun.ensures.plans ∙ c.loop-begun.invariant.plans;
      size = c.in_ok-clean_up.ensures.agents ∙ c.in_ok-begun.ensures.agents ∙ c.loop-begun.invariant.size;
      watched = kept_then _ _ _ _ _ _ _ _ _ _ _ c.loop-begun.invariant.watched
          (kept_then _ _ _ _ _ _ _ _ _ _ _ (subst (λ o. IsKept g.W.Watcher.knows g.W.Watcher.tells None (begun o c.begin_move.new.self) c.loop-begun.self c.begin_move.new.self c.loop-begun.watcher c.begin_move.new.watcher) c.in-Some.is c.in_ok-begun.ensures.watched)
          (subst (λ o. IsKept g.W.Watcher.knows g.W.Watcher.tells (busy c.in-Some.begun.agent c.begin_move.new.self) o c.begin_move.new.self c.clean_up.new.self c.begin_move.new.watcher c.clean_up.new.watcher) (cleaned_busy c.in_ok-clean_up.field-0 c.in-Some.begun.agent c.begin_move.new.self c.clean_up.new.self sweeps c.in_ok-clean_up.ensures.goes) c.in_ok-clean_up.ensures.watched));
      runs = move_on c.in-Some.begun c.args.self.now c.loop-begun.self c.begin_move.new.self c.clean_up.new.self c.loop-begun.invariant.runs first rest;
      same = left.0 ∙ c.loop-begun.invariant.same;
    }

pub loop-begun-smaller : goal.loop-begun-smaller
loop-begun-smaller g c =
    let first = subst (λ o. BeginsMove o c.loop-begun.self c.begin_move.new.self) c.in-Some.is c.in_ok-begun.ensures.begins in
    let rest = cleaned_rest c.in_ok-clean_up.field-0 c.in-Some.begun.agent c.begin_move.new.self c.clean_up.new.self (first.swept (not_false c.in-Some.begun.cleans c.if-not-begun.false)) c.in_ok-clean_up.ensures.goes in
    let less = c.in_ok-clean_up.ensures.less in
    (cleaned_less c.in-Some.begun c.loop-begun.self c.begin_move.new.self c.clean_up.new.self first (not_false c.in-Some.begun.cleans c.if-not-begun.false) rest less.0 less.1).1

pub returns-then-not-begun-clause-runs : goal.returns-then-not-begun-clause-runs
returns-then-not-begun-clause-runs g c =
    let first = subst (λ o. BeginsMove o c.loop-begun.self c.begin_move.new.self) c.in-Some.is c.in_ok-begun.ensures.begins in
    move_on c.in-Some.begun c.args.self.now c.loop-begun.self c.begin_move.new.self c.finish_move.new.self c.loop-begun.invariant.runs first c.in_ok-finish_move.ensures.rests

pub returns-then-not-begun-clause-watched : goal.returns-then-not-begun-clause-watched
returns-then-not-begun-clause-watched g c =
    kept_then _ _ _ _ _ _ _ _ _ _ _ c.loop-begun.invariant.watched
    (kept_then _ _ _ _ _ _ _ _ _ _ _ (subst (λ o. IsKept g.W.Watcher.knows g.W.Watcher.tells None (begun o c.begin_move.new.self) c.loop-begun.self c.begin_move.new.self c.loop-begun.watcher c.begin_move.new.watcher) c.in-Some.is c.in_ok-begun.ensures.watched) c.in_ok-finish_move.ensures.watched)

pub returns-then-not-begun-clause-less : goal.returns-then-not-begun-clause-less
returns-then-not-begun-clause-less g c =
    let first = subst (λ o. BeginsMove o c.loop-begun.self c.begin_move.new.self) c.in-Some.is c.in_ok-begun.ensures.begins in
    let less = moved_less c.in-Some.begun c.loop-begun.self c.begin_move.new.self c.finish_move.new.self first (not-true c.in-Some.begun.cleans c.if-not-begun.true) c.in_ok-finish_move.ensures.rests c.in_ok-finish_move.ensures.less.0 in
    λ more. subst (λ n. plans_left c.finish_move.new.self < n) c.loop-begun.invariant.same less

pub returns-clause-watched : goal.returns-clause-watched
returns-clause-watched g c =
    kept_then _ _ _ _ _ _ _ _ _ _ _ c.loop-begun.invariant.watched (subst (λ o. IsKept g.W.Watcher.knows g.W.Watcher.tells None (begun o c.begin_move.new.self) c.loop-begun.self c.begin_move.new.self c.loop-begun.watcher c.begin_move.new.watcher) c.in_default.is c.in_ok-begun.ensures.watched)

pub returns-clause-runs : goal.returns-clause-runs
returns-clause-runs g c =
    let first = subst (λ o. BeginsMove o c.loop-begun.self c.begin_move.new.self) c.in_default.is c.in_ok-begun.ensures.begins in
    runs_out c.args.self.now c.loop-begun.self c.begin_move.new.self c.loop-begun.invariant.runs first
