use Rattle.std.proofs.Common.{refl, sym, ◌∙◌, zero-add, arith}
use Rattle.es_record.specs.AgentView.{AgentView}
use Rattle.es_record.proofs.Steps.{ties_emptied, ties_same}
use Rattle.es_record.proofs.agent_record.AgentRecord.empty.Goals as goal

pub invariant_of-self-in_err-empty : goal.invariant_of-self-in_err-empty
invariant_of-self-in_err-empty c =
    rw c.reserve.ensures.same
    (ties_same _ _ _ _ _ _ c.self.invariant.0 c.in_err-empty.ensures.err, c.self.invariant.1, (λ open'. let room = c.self.invariant.2 open' in omega (arith, room, c.reserve.ensures.kept)), c.self.invariant.3, c.self.invariant.4, c.self.invariant.5, c.self.invariant.6, c.self.invariant.7)

pub invariant_of-self-2 : goal.invariant_of-self-2
invariant_of-self-2 c =
    let view : AgentView = record { plan = c.self.inside.plan; number = c.self.inside.number; agents = c.self.inside.agents; over = c.self.inside.buffers.rows; history = c.self.inside.events.events } in
    let next = rw (← c.self.view_is) at c.requires in
    let emptied = rw (c.as_slice.ensures.value) at c.in_ok-empty.ensures.ok in
    let stands = rw (c.from_vec.ensures) at c.after-self-inside.ensures in
    rw (c.append.ensures.events, c.from_vec.ensures, c.in_ok-reserve.ensures.same) (
      ties_emptied view _ _ _ _ c.args.ids.items c.self.invariant.0 next emptied (stands _ c.self.invariant.0.stands _ next.permitted (λ n v e. cc)),
      c.self.invariant.1,
      (λ open'. omega (arith, c.in_ok-reserve.ensures.room, c.append.ensures.room)),
      (let small = c.self.invariant.3 in omega (arith, small)),
      c.self.invariant.4 ∙ sym (zero-add _),
      c.self.invariant.5 ∙ sym (zero-add _),
      c.self.invariant.6,
      refl,
    )
