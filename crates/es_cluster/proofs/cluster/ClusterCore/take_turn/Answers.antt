use Rattle.std.proofs.Common.{sym, ◌∙◌, ap, Some}
use Rattle.es_cluster.specs.Members.{MemberView}
use Rattle.es_cluster.proofs.Standing.{found_at}
use Rattle.es_cluster.proofs.Turning.{stepped}
use Rattle.es_cluster.proofs.cluster.ClusterCore.take_turn.Goals as goal

pub returns-clause-works : goal.returns-clause-works
returns-clause-works g c =
    let within = rw (← c.self.view_is) at c.requires.known in
    let here = found_at c.self.inside.members.items c.args.agent _ within ∙ ap (λ (m : MemberView). Some m.core) (sym c.index.ensures) ∙ ap Some (sym c.core.ensures) in
    let whole = rw (← c.self.view_is) at c.requires.whole in
    let quiet = rw (← c.self.view_is) at c.requires.quiet in
    let turned = rw (← c.self.view_is) at c.step.ensures.turned in
    rw (← c.self.view_is) (stepped c.step.result c.args.agent _ c.step.new.self c.core.result.now c.self.invariant.0 (c.self.invariant.1 whole) here c.history.ensures.run quiet turned).0

pub returns-clause-hears : goal.returns-clause-hears
returns-clause-hears g c =
    let within = rw (← c.self.view_is) at c.requires.known in
    let here = found_at c.self.inside.members.items c.args.agent _ within ∙ ap (λ (m : MemberView). Some m.core) (sym c.index.ensures) ∙ ap Some (sym c.core.ensures) in
    let whole = rw (← c.self.view_is) at c.requires.whole in
    let quiet = rw (← c.self.view_is) at c.requires.quiet in
    let turned = rw (← c.self.view_is) at c.step.ensures.turned in
    rw (← c.self.view_is) (stepped c.step.result c.args.agent _ c.step.new.self c.core.result.now c.self.invariant.0 (c.self.invariant.1 whole) here c.history.ensures.run quiet turned).1
