use Rattle.std.proofs.Common.{◌≡◌, ◌<◌, Some, arith, ap, sym, ◌∙◌, length, refl}
use Rattle.es_cluster.specs.Members.{IsPlanned, MemberView}
use Rattle.es_cluster.proofs.Standing.{cores_length, found_at, within}
use Rattle.es_cluster.specs.State.{cores}
use Rattle.es_cluster.proofs.Counting.{one_more}
use Rattle.es_outcome.proofs.ending.are_at_places.Goals as goal

pub loop-place-preserved : goal.loop-place-preserved
loop-place-preserved g c =
    let size = cores_length c.args.members.now in
    let inside : c.loop-place.place < length (cores c.args.members.now) = omega (arith, size, c.loop-place-test.true) in
    let here = found_at c.args.members.now c.loop-place.place c.index-members-place.result inside ∙ ap (λ (m : MemberView). Some m.core) (sym c.index-members-place.is) in
    record {
      placed = one_more (λ n b. b.number ≡ n) (cores c.args.members.now) c.loop-place.place c.index-members-place.result.core here (sym c.number.ensures.number ∙ c.if-number-place.false) c.loop-place.invariant.placed;
      planned = one_more (λ n b. IsPlanned g.L.Planned.plan b) (cores c.args.members.now) c.loop-place.place c.index-members-place.result.core here c.number.ensures.planned c.loop-place.invariant.planned;
    }

pub returns-then-number-place-clause-placed : goal.returns-then-number-place-clause-placed
returns-then-number-place-clause-placed g c =
    let size = cores_length c.args.members.now in
    let inside : c.loop-place.place < length (cores c.args.members.now) = omega (arith, size, c.loop-place-test.true) in
    let here = found_at c.args.members.now c.loop-place.place c.index-members-place.result inside ∙ ap (λ (m : MemberView). Some m.core) (sym c.index-members-place.is) in
    (λ no n b is. cc, λ placed. absurd (c.if-number-place.true (c.number.ensures.number ∙ placed c.loop-place.place c.index-members-place.result.core here)))

pub returns-clause-placed : goal.returns-clause-placed
returns-clause-placed g c =
    let size = cores_length c.args.members.now in
    (λ yes n b is. (let few = within (cores c.args.members.now) n b is in c.loop-place.invariant.placed n b (omega (arith, few, size, c.loop-place-test.false)) is), λ placed. refl)

pub returns-clause-planned : goal.returns-clause-planned
returns-clause-planned g c = λ yes n b is.
    let size = cores_length c.args.members.now in
    let few = within (cores c.args.members.now) n b is in
    c.loop-place.invariant.planned n b (omega (arith, few, size, c.loop-place-test.false)) is
