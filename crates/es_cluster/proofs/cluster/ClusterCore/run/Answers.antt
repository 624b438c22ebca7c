use Rattle.std.proofs.Common.{◌≡◌, subst, suc, ◌+◌, arith, ◌∙◌, drop, get_or, Result, Ok, Err}
use Rattle.std.specs.Prelude.{OnErr}
use Rattle.std.proofs.Math.Seq.{drop-cons}
use Rattle.es_cluster.specs.Turns.{AllTurned, StoppedIn}
use Rattle.es_cluster.proofs.Stopping.{at_once, later}
use Rattle.es_cluster.proofs.cluster.ClusterCore.run.Goals as goal

on_err : {A E : Type 0} (r : Result A E) (P : Type 0) → P → OnErr r P
on_err (Ok a) P p = tt
on_err (Err e) P p = p

pub returns-in_err-step-clause-stopped : goal.returns-in_err-step-clause-stopped
returns-in_err-step-clause-stopped g c =
    let turns = c.args.turns.now in
    let i = c.loop-i.i in
    let here = drop-cons turns i 0 c.loop-i-test.true in
    on_err c.from_residual.result _ (c.loop-i.invariant.stopped c.step.new.self (at_once (get_or turns i 0) (drop (suc i) turns) (drop i turns) c.loop-i.self c.step.new.self here c.in_err-step.ensures.err))

pub loop-i-preserved : goal.loop-i-preserved
loop-i-preserved g c =
    let turns = c.args.turns.now in
    let i = c.loop-i.i in
    let here = drop-cons turns i 0 c.loop-i-test.true in
    let more : i + 1 ≡ suc i = omega arith in
    let turned = c.in_ok-step.ensures.turned in
    record {
      within = omega (arith, c.loop-i-test.true);
      whole = turned.whole.1;
      agents = c.in_ok-step.ensures.agents ∙ c.loop-i.invariant.agents;
      plans = c.in_ok-step.ensures.plans ∙ c.loop-i.invariant.plans;
      turned = λ end rest. c.loop-i.invariant.turned end (rw here (c.in_ok-step.field-0, c.step.new.self, turned, subst (λ n. AllTurned (drop n turns) c.step.new.self end) more rest));
      stopped = λ end rest. c.loop-i.invariant.stopped end (later c.in_ok-step.field-0 (get_or turns i 0) (drop (suc i) turns) (drop i turns) c.loop-i.self c.step.new.self end here turned (subst (λ n. StoppedIn (drop n turns) c.step.new.self end) more rest));
    }
