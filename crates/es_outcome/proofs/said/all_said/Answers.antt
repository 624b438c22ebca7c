use Rattle.std.proofs.Common.{◌≡◌, ◌<◌, Some, arith, ap, sym, ◌∙◌, length}
use Rattle.es_cluster.specs.Members.{MemberView}
use Rattle.es_cluster.proofs.Standing.{cores_length, found_at}
use Rattle.es_cluster.specs.State.{cores}
use Rattle.es_outcome.proofs.Tallied.{mapped_all, mapped_more}
use Rattle.es_outcome.specs.Said.{said_by}
use Rattle.es_outcome.proofs.said.all_said.Goals as goal

pub loop-place-preserved : goal.loop-place-preserved
loop-place-preserved g c =
    let size = cores_length c.args.members.now in
    let inside : c.loop-place.place < length (cores c.args.members.now) = omega (arith, size, c.loop-place-test.true) in
    let here = found_at c.args.members.now c.loop-place.place c.index-members-place.result inside ∙ ap (λ (m : MemberView). Some m.core) (sym c.index-members-place.is) in
    mapped_more said_by (cores c.args.members.now) c.loop-place.place c.index-members-place.result.core c.loop-place.all.items c.push.new.self.items c.in_ok-said_by.field-0 here c.loop-place.invariant c.in_ok-push.ensures.items c.in_ok-said_by.ensures

pub returns : goal.returns
returns g c =
    let size = cores_length c.args.members.now in
    let past = c.loop-place-test.false in
    let upto = c.loop-place.auto.place-end in
    let all : c.loop-place.place ≡ length (cores c.args.members.now) = omega (arith, past, upto, size) in
    mapped_all said_by (cores c.args.members.now) c.loop-place.place c.loop-place.all.items all c.loop-place.invariant
