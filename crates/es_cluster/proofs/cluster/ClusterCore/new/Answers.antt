use Rattle.std.proofs.Common.{sym, ◌∙◌, ap, arith, length, map}
use Rattle.es_cluster.specs.State.{cores, first_views, names_of}
use Rattle.es_cluster.proofs.Beginning.{first_holds, first_length, first_names}
use Rattle.es_cluster.proofs.Standing.{cores_length}
use Rattle.es_cluster.proofs.cluster.ClusterCore.new.Goals as goal

pub invariant_of-result : goal.invariant_of-result
invariant_of-result g c =
    let plans = ap length c.into_vec-agents.ensures in
    let holds = first_holds c.args.plan.agents (cores c.in-Ok.members.items) c.in_ok-ledger.ledger (c.in-Ok.ensures ∙ ap (λ ps. first_views (length ps) 0 ps) c.into_vec-agents.ensures)
    (c.in_ok-ledger.ensures.ledger.0 ∙ c.len-count.ensures ∙ c.into_vec-agents.result.ok.0 ∙ plans) c.in_ok-ledger.ensures.ledger.1 c.requires.others in
    let count = c.len-count.ensures ∙ c.into_vec-agents.result.ok.0 in
    let room = c.in_ok-histories.ensures.capacity in
    let size = sym (cores_length c.in-Ok.members.items) ∙ ap length c.in-Ok.ensures ∙ first_length (length c.into_vec-agents.result.items) 0 c.into_vec-agents.result.items in (
      holds.0,
      λ whole. holds.1,
      c.in_ok-names.ensures ∙ ap (λ ps. map (λ p. p.name) ps) c.as_slice.ensures.value ∙ sym (ap names_of c.in-Ok.ensures ∙ first_names (length c.into_vec-agents.result.items) 0 c.into_vec-agents.result.items),
      c.in_ok-histories.ensures.items,
      omega (arith, count, room, size),
    )
