use Rattle.std.proofs.Common.{◌≡◌, true, false, sym, ◌∙◌, ap, subst}
use Rattle.es_cluster.specs.Moves.{all_over, over, with_drained}
use Rattle.es_cluster.specs.State.{cores, plans}
use Rattle.es_cluster.proofs.Draining.{as_drained, drained_stands}
use Rattle.es_cluster.proofs.Watching.{kept_then}
use Rattle.es_cluster.proofs.cluster.ClusterCore.run_turns_watched.Goals as goal

pub loop-preserved : goal.loop-preserved
loop-preserved g c =
    let made = c.in_ok-make_moves.ensures in
    record {
      whole = made.whole;
      plans = made.plans ∙ c.loop.invariant.plans;
      watched = kept_then _ _ _ _ _ _ _ _ _ _ _ c.loop.invariant.watched made.watched;
      runs = λ end rest. c.loop.invariant.runs end (made.runs end rest);
    }

pub loop-smaller : goal.loop-smaller
loop-smaller g c = c.in_ok-make_moves.ensures.less c.if-branch.true

pub drain-requires : goal.drain-requires
drain-requires g c = subst (λ s. all_over s ≡ true) (sym c.self-2.view_is) (c.in_ok-make_moves.ensures.over c.if-branch.false)

pub invariant_of-self : goal.invariant_of-self
invariant_of-self g c =
    let whole = subst (λ s. s.failed ≡ false) (sym c.self-2.view_is) c.in_ok-make_moves.ensures.whole in
    let ends = subst (λ s. all_over s ≡ true) (sym c.self-2.view_is) (c.in_ok-make_moves.ensures.over c.if-branch.false) in
    let stands = drained_stands (cores c.self-2.inside.members.items) c.self-2.inside.ledger c.drain.new.self c.self-2.invariant.0 (c.self-2.invariant.1 whole) c.history.ensures.legal ends c.drain.ensures.history.0 c.drain.ensures.history.1 in
    (stands.0, λ whole. stands.1, c.self-2.invariant.2, c.self-2.invariant.3, c.self-2.invariant.4)

pub returns-clause-over : goal.returns-clause-over
returns-clause-over g c =
    let whole = subst (λ s. s.failed ≡ false) (sym c.self-2.view_is) c.in_ok-make_moves.ensures.whole in
    let ends = subst (λ s. all_over s ≡ true) (sym c.self-2.view_is) (c.in_ok-make_moves.ensures.over c.if-branch.false) in
    let stands = drained_stands (cores c.self-2.inside.members.items) c.self-2.inside.ledger c.drain.new.self c.self-2.invariant.0 (c.self-2.invariant.1 whole) c.history.ensures.legal ends c.drain.ensures.history.0 c.drain.ensures.history.1 in
    (stands.2, whole)

pub returns-clause-plans : goal.returns-clause-plans
returns-clause-plans g c = ap (λ s. plans s.agents) c.self-2.view_is ∙ c.in_ok-make_moves.ensures.plans ∙ c.loop.invariant.plans

pub returns-clause-runs : goal.returns-clause-runs
returns-clause-runs g c =
    let made = c.in_ok-make_moves.ensures in (
      c.make_moves.new.self,
      c.loop.invariant.runs c.make_moves.new.self (made.runs c.make_moves.new.self (over (made.over c.if-branch.false))),
      as_drained (record { agents = cores c.self-2.inside.members.items; ledger = c.self-2.inside.ledger; failed = c.self-2.inside.failed }) c.drain.new.self c.drain.ensures.history.0 c.drain.ensures.history.1 ∙ ap with_drained c.self-2.view_is,
    )

pub returns-clause-watched : goal.returns-clause-watched
returns-clause-watched g c =
    let made = c.in_ok-make_moves.ensures in
    let kept = kept_then _ _ _ _ _ _ _ _ _ _ _ c.loop.invariant.watched made.watched in
    record {
      end = c.make_moves.new.self;
      runs = c.loop.invariant.runs c.make_moves.new.self (made.runs c.make_moves.new.self (over (made.over c.if-branch.false)));
      told = kept.told;
      known = kept.known;
      drained = as_drained (record { agents = cores c.self-2.inside.members.items; ledger = c.self-2.inside.ledger; failed = c.self-2.inside.failed }) c.drain.new.self c.drain.ensures.history.0 c.drain.ensures.history.1 ∙ ap with_drained c.self-2.view_is;
    }
