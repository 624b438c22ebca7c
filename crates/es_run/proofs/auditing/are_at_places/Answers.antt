use Rattle.std.proofs.Common.{◌≡◌, ◌<◌, ◌+◌, map, length, get_or, arith, ap, sym, ◌∙◌, refl}
use Rattle.std.specs.Prelude.{slice_get}
use Rattle.std.proofs.lemmas.List.{length-map}
use Rattle.std.proofs.Math.Seq.{map-set_same}
use Rattle.es_cluster.proofs.Standing.{cores_length, within}
use Rattle.es_cluster.specs.State.{cores}
use Rattle.es_cluster.proofs.Counting.{one_more}
use Rattle.es_outcome.proofs.Placed.{lent_at}
use Rattle.es_run.proofs.auditing.are_at_places.Goals as goal

pub loop-member-preserved : goal.loop-member-preserved
loop-member-preserved g c =
    let v = c.loop-member.invariant in
    let at = c.loop-member.member-index in
    let below : at < length c.loop-member.members = omega arith in
    let view = (get_or c.loop-member.members at c.member-item.result).now.core in
    let here = ap (λ (l : _). slice_get (cores l) at) (sym v.same) ∙ lent_at c.loop-member.members at c.member-item.result below in
    record {
      same = map-set_same (λ m. m.now) c.loop-member.members at _ c.member-item.result refl ∙ v.same;
      place = ap (λ n. n + 1) v.place;
      each = one_more (λ n b. b.number ≡ n) (cores (map (λ m. m.now) c.args.members.now)) at view here (sym c.number.ensures.number ∙ c.if-number-place.false ∙ v.place) v.each;
    }

pub returns-clause-placed : goal.returns-clause-placed
returns-clause-placed g c = λ yes n b is.
    let few = within (cores (map (λ m. m.now) c.args.members.now)) n b is in
    let size = cores_length (map (λ m. m.now) c.args.members.now) ∙ length-map c.args.members.now (λ m. m.now) in
    c.loop-member.invariant.each n b (omega (arith, few, size)) is
