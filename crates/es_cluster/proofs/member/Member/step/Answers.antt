use Rattle.std.proofs.Common.{refl, sym, subst, ◌∙◌}
use Rattle.es_cluster.specs.Midway.{IsHeld}
use Rattle.es_cluster.proofs.Aims.{open_for}
use Rattle.es_rules.specs.Needs.{need}
use Rattle.es_cluster.proofs.member.Member.step.Goals as goal

pub turn-requires-clause-ready : goal.turn-requires-clause-ready
turn-requires-clause-ready g c =
    let same = c.look.ensures.same in
    let seated = rw (← c.self.view_is) at c.requires.seated in
    subst (IsHeld c.self.inside.core c.look.new.stake) (sym same.0)
    (subst (λ s. IsHeld c.self.inside.core s c.args.ledger.now) (sym same.1) (record {
      held = c.self.invariant.0;
      known = seated.known;
      going = λ asks. seated.over ∙ open_for c.self.inside.core (need c.self.inside.core) (λ e. asks (sym e)) refl;
      legal = c.look.ensures.legal;
      holder = c.look.ensures.holder;
    }))
