use Rattle.std.proofs.Common.{sym, ◌∙◌, ◌≤◌, ap, refl, subst, Some}
use Rattle.std.specs.Prelude.{vec_capacity}
use Rattle.es_cluster.specs.Members.{MemberView}
use Rattle.es_cluster.specs.Turned.{OthersStay}
use Rattle.es_cluster.specs.State.{cores, names_of, plans, ArePlaced, AreTied}
use Rattle.es_cluster.proofs.Growing.{grows_none}
use Rattle.es_cluster.proofs.Named.{names}
use Rattle.es_cluster.proofs.Standing.{found_at, takes_of, placed_here, mapped_still, one_changed, placed_after, set_length, set_same, tied_after, tied_of}
use Rattle.es_cluster.proofs.cluster.ClusterCore.step.Goals as goal

pub step-requires-clause-seated : goal.step-requires-clause-seated
step-requires-clause-seated g c =
    let within = rw (← c.self.view_is) at c.requires in
    let here = found_at c.self.inside.members.items c.args.agent _ within ∙ ap (λ (m : MemberView). Some m.core) (sym c.index_mut.ensures.value) in
    (c.self.invariant.0.each c.args.agent c.index_mut.result.now.core here).seated

pub step-requires-clause-others : goal.step-requires-clause-others
step-requires-clause-others g c =
    let within = rw (← c.self.view_is) at c.requires in
    let here = found_at c.self.inside.members.items c.args.agent _ within ∙ ap (λ (m : MemberView). Some m.core) (sym c.index_mut.ensures.value) in
    let placed = c.self.invariant.0.each c.args.agent c.index_mut.result.now.core here in
    names c.index_mut.result.now.core c.self.inside.ledger.agents c.args.agent placed.number placed.others

pub step-requires-clause-tied : goal.step-requires-clause-tied
step-requires-clause-tied g c =
    let within = rw (← c.self.view_is) at c.requires in
    let here = found_at c.self.inside.members.items c.args.agent _ within ∙ ap (λ (m : MemberView). Some m.core) (sym c.index_mut.ensures.value) in
    (c.self.invariant.1 c.if-self.false).each c.args.agent c.index_mut.result.now.core here

pub invariant_of-self : goal.invariant_of-self
invariant_of-self g c =
    let within = rw (← c.self.view_is) at c.requires in
    let here = found_at c.self.inside.members.items c.args.agent _ within ∙ ap (λ (m : MemberView). Some m.core) (sym c.index_mut.ensures.value) in
    let placed = c.self.invariant.0.each c.args.agent c.index_mut.result.now.core here in
    let stay = subst (λ n. OthersStay n c.self.inside.ledger c.step.new.ledger) placed.number c.step.ensures.others in
    let still = placed_here c.index_mut.result.now.core c.step.new.self.core c.self.inside.ledger c.step.new.ledger c.args.agent placed c.step.ensures.number c.step.ensures.same.0 c.step.ensures.seated stay.0 in
    let changed = one_changed c.self.inside.members.items c.args.agent c.step.new.self in (
      subst (λ bs. ArePlaced bs c.step.new.ledger) (sym changed) (placed_after (cores c.self.inside.members.items) c.self.inside.ledger c.step.new.ledger c.args.agent c.step.new.self.core within c.self.invariant.0 still stay),
      λ whole. subst (λ bs. AreTied bs c.step.new.ledger) (sym changed)
          (tied_after (cores c.self.inside.members.items) c.self.inside.ledger c.step.new.ledger c.args.agent c.step.new.self.core within c.self.invariant.0 (c.self.invariant.1 whole) (tied_of c.in-Ok.progress c.step.new.self.core c.step.new.ledger.history c.in-Ok.ensures.tied) stay),
      c.self.invariant.2 ∙ sym (ap names_of changed ∙ mapped_still (λ b. b.plan.name) (cores c.self.inside.members.items) c.args.agent c.index_mut.result.now.core c.step.new.self.core here (ap (λ p. p.name) c.step.ensures.same.0)),
      c.self.invariant.3,
      subst (λ n. n ≤ vec_capacity c.self.inside.histories) (sym (set_length c.self.inside.members.items c.args.agent c.step.new.self)) c.self.invariant.4,
    )

pub invariant_of-self-in-Err : goal.invariant_of-self-in-Err
invariant_of-self-in-Err g c =
    let within = rw (← c.self.view_is) at c.requires in
    let here = found_at c.self.inside.members.items c.args.agent _ within ∙ ap (λ (m : MemberView). Some m.core) (sym c.index_mut.ensures.value) in
    let placed = c.self.invariant.0.each c.args.agent c.index_mut.result.now.core here in
    let stay = subst (λ n. OthersStay n c.self.inside.ledger c.step.new.ledger) placed.number c.step.ensures.others in
    let still = placed_here c.index_mut.result.now.core c.step.new.self.core c.self.inside.ledger c.step.new.ledger c.args.agent placed c.step.ensures.number c.step.ensures.same.0 c.step.ensures.seated stay.0 in
    let changed = one_changed c.self.inside.members.items c.args.agent c.step.new.self in (
      subst (λ bs. ArePlaced bs c.step.new.ledger) (sym changed) (placed_after (cores c.self.inside.members.items) c.self.inside.ledger c.step.new.ledger c.args.agent c.step.new.self.core within c.self.invariant.0 still stay),
      λ whole. cc,
      c.self.invariant.2 ∙ sym (ap names_of changed ∙ mapped_still (λ b. b.plan.name) (cores c.self.inside.members.items) c.args.agent c.index_mut.result.now.core c.step.new.self.core here (ap (λ p. p.name) c.step.ensures.same.0)),
      c.self.invariant.3,
      subst (λ n. n ≤ vec_capacity c.self.inside.histories) (sym (set_length c.self.inside.members.items c.args.agent c.step.new.self)) c.self.invariant.4,
    )

pub returns-in-Ok-clause-turned : goal.returns-in-Ok-clause-turned
returns-in-Ok-clause-turned g c =
    let within = rw (← c.self.view_is) at c.requires in
    let here = found_at c.self.inside.members.items c.args.agent _ within ∙ ap (λ (m : MemberView). Some m.core) (sym c.index_mut.ensures.value) in
    let placed = c.self.invariant.0.each c.args.agent c.index_mut.result.now.core here in
    let stay = subst (λ n. OthersStay n c.self.inside.ledger c.step.new.ledger) placed.number c.step.ensures.others in
    rw (← c.self.view_is) (record {
      before = c.index_mut.result.now.core;
      after = c.step.new.self.core;
      agent = here;
      agents = one_changed c.self.inside.members.items c.args.agent c.step.new.self;
      turn = takes_of c.in-Ok.progress c.index_mut.result.now c.step.new.self c.in-Ok.ensures.ok;
      told = c.in-Ok.ensures.told;
      ledger = stay.1;
      number = stay.0;
      legal = c.history.ensures.legal;
      tied = c.in-Ok.ensures.tied;
      seated = c.step.ensures.seated;
      whole = (c.if-self.false, c.if-self.false);
    })

pub returns-in-Ok-clause-plans : goal.returns-in-Ok-clause-plans
returns-in-Ok-clause-plans g c =
    let within = rw (← c.self.view_is) at c.requires in
    let here = found_at c.self.inside.members.items c.args.agent _ within ∙ ap (λ (m : MemberView). Some m.core) (sym c.index_mut.ensures.value) in
    rw (← c.self.view_is) (ap plans (one_changed c.self.inside.members.items c.args.agent c.step.new.self) ∙ mapped_still (λ b. b.plan) (cores c.self.inside.members.items) c.args.agent c.index_mut.result.now.core c.step.new.self.core here c.step.ensures.same.0)

pub returns-in-Err-clause-plans : goal.returns-in-Err-clause-plans
returns-in-Err-clause-plans g c =
    let within = rw (← c.self.view_is) at c.requires in
    let here = found_at c.self.inside.members.items c.args.agent _ within ∙ ap (λ (m : MemberView). Some m.core) (sym c.index_mut.ensures.value) in
    rw (← c.self.view_is) (ap plans (one_changed c.self.inside.members.items c.args.agent c.step.new.self) ∙ mapped_still (λ b. b.plan) (cores c.self.inside.members.items) c.args.agent c.index_mut.result.now.core c.step.new.self.core here c.step.ensures.same.0)

pub returns-in-Err-clause-err : goal.returns-in-Err-clause-err
returns-in-Err-clause-err g c =
    let within = rw (← c.self.view_is) at c.requires in
    let here = found_at c.self.inside.members.items c.args.agent _ within ∙ ap (λ (m : MemberView). Some m.core) (sym c.index_mut.ensures.value) in
    let placed = c.self.invariant.0.each c.args.agent c.index_mut.result.now.core here in
    let stay = subst (λ n. OthersStay n c.self.inside.ledger c.step.new.ledger) placed.number c.step.ensures.others in
    rw (← c.self.view_is) (record {
      agents = one_changed c.self.inside.members.items c.args.agent c.step.new.self ∙ set_same (cores c.self.inside.members.items) c.args.agent c.step.new.self.core (here ∙ ap Some (sym c.in-Err.ensures.err));
      ledger = stay.1;
      number = stay.0;
      failed = refl;
    })

pub returns-then-self-clause-err : goal.returns-then-self-clause-err
returns-then-self-clause-err g c = rw (← c.self.view_is) (record { agents = refl; ledger = grows_none c.args.agent c.self.inside.ledger.history; number = refl; failed = c.if-self.true })
