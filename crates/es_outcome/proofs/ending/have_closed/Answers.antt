use Rattle.std.proofs.Common.{◌≡◌, ◌<◌, Some, arith, ap, sym, ◌∙◌, length, true, subst, false}
use Rattle.es_cluster.specs.Members.{MemberView}
use Rattle.es_record.specs.AgentView.{AgentView}
use Rattle.es_cluster.proofs.Resting.{nothing_over}
use Rattle.es_cluster.proofs.Standing.{cores_length, found_at, within}
use Rattle.es_cluster.specs.Moves.{is_over}
use Rattle.es_cluster.specs.State.{cores}
use Rattle.es_cluster.proofs.Counting.{one_more}
use Rattle.es_outcome.proofs.Placed.{still_going}
use Rattle.es_outcome.proofs.ending.have_closed.Goals as goal

pub loop-place-preserved : goal.loop-place-preserved
loop-place-preserved g c =
    let size = cores_length c.args.members.now in
    let m = c.index-members-place-in-loop-place.result in
    let inside : c.loop-place.place < length (cores c.args.members.now) = omega (arith, size, c.loop-place-test.true) in
    let here = found_at c.args.members.now c.loop-place.place m inside ∙ ap (λ (m : MemberView). Some m.core) (sym c.index-members-place-in-loop-place.is) in
    one_more (λ n b. is_over b ≡ true) (cores c.args.members.now) c.loop-place.place m.core here (nothing_over m.core (c.has_closed.ensures.0 c.if-not-has_closed.false)) c.loop-place.invariant

pub returns-then-not-has_closed-clause-open : goal.returns-then-not-has_closed-clause-open
returns-then-not-has_closed-clause-open g c = λ no.
    let size = cores_length c.args.members.now in
    let m = c.index-members-place-in-loop-place.result in
    let inside : c.loop-place.place < length (cores c.args.members.now) = omega (arith, size, c.loop-place-test.true) in
    let here = found_at c.args.members.now c.loop-place.place m inside ∙ ap (λ (m : MemberView). Some m.core) (sym c.index-members-place-in-loop-place.is) in
    let first = found_at c.args.members.now c.loop-place.place c.index-members-place.result inside ∙ ap (λ (m : MemberView). Some m.core) (sym c.index-members-place.is) in
    let again : Some c.index-members-place.result.core ≡ Some m.core = sym first ∙ here in
    let one : c.index-members-place.result.core ≡ m.core = cc in
    let same : c.core.result.now ≡ m.core = c.core.ensures ∙ one in
    record {
      number = c.loop-place.place;
      core = c.core.result.now;
      here = here ∙ ap Some (sym same);
      run = c.history.ensures.run;
      going = subst (λ (b : AgentView). is_over b ≡ false) (sym same) (still_going m.core c.has_closed.result c.has_closed.ensures.1 c.if-not-has_closed.true);
    }

pub returns-clause-closed : goal.returns-clause-closed
returns-clause-closed g c = λ yes n b is.
    let size = cores_length c.args.members.now in
    let few = within (cores c.args.members.now) n b is in
    c.loop-place.invariant n b (omega (arith, few, size, c.loop-place-test.false)) is
