use Rattle.std.proofs.Common.{arith}
use Rattle.es_record.specs.AgentView.{AgentView, with_row}
use Rattle.es_record.proofs.Counted.{opened_small, posted_small}
use Rattle.es_record.proofs.Steps.{ties_after, ties_same, ties_with, can_record, newest_made, assigns_to}
use Rattle.es_record.proofs.agent_record.AgentRecord.record_with.Goals as goal

pub advance-requires-clause-can : goal.advance-requires-clause-can
advance-requires-clause-can c =
    let view : AgentView = record { plan = c.self.inside.plan; number = c.self.inside.number; agents = c.self.inside.agents; over = c.self.inside.buffers.rows; history = c.self.inside.events.events } in
    let next = rw (← c.self.view_is) at c.requires.next in
    let again' = rw (← c.self.view_is) at c.again-again.ensures in
    rw again' (can_record (with_row c.args.row view) _ _ _ (ties_with c.args.row view _ _ c.self.invariant.0) next)

-- where there was no memory
pub invariant_of-self : goal.invariant_of-self
invariant_of-self c =
    let same = rw c.in-Err.is at c.advance.ensures.err in
    rw (c.advance.ensures.events, c.advance.ensures.rows)
    (ties_same _ _ _ _ _ _ c.self.invariant.0 same, c.self.invariant.1, (λ open'. let room = c.self.invariant.2 open' in omega (arith, room, c.advance.ensures.kept)), c.self.invariant.3, c.self.invariant.4, c.self.invariant.5, c.self.invariant.6, c.self.invariant.7)

pub overflow_add-self : goal.overflow_add-self
overflow_add-self c =
    let small = opened_small c.self.inside.buffers.rows _ c.self.inside.events.events c.self.invariant.0.legal in
    omega (arith, small, c.self.invariant.4, c.blocks_in.ensures.few)

pub overflow_add-self-2 : goal.overflow_add-self-2
overflow_add-self-2 c =
    let small = posted_small c.self.inside.buffers.rows _ c.self.inside.events.events c.self.invariant.0.legal in
    omega (arith, small, c.self.invariant.5, c.posts_in.ensures.few)

pub invariant_of-self-2 : goal.invariant_of-self-2
invariant_of-self-2 c =
    let view : AgentView = record { plan = c.self.inside.plan; number = c.self.inside.number; agents = c.self.inside.agents; over = c.self.inside.buffers.rows; history = c.self.inside.events.events } in
    let next = rw (← c.self.view_is) at c.requires.next in
    let comes = rw (← c.self.view_is) at c.requires.comes in
    let id = rw (← c.self.view_is) at c.next_identity-id.ensures.said in
    let again' = rw (← c.self.view_is) at c.again-again.ensures in
    let steps = rw again' at c.in_default.ensures.ok in
    let called = rw (← c.self.view_is) at c.callback_at-callback.ensures in
    let to = rw c.self.invariant.1 at c.receiver-received.ensures in
    let job = c.self.invariant.0.stands.job in
    let ties = ties_with c.args.row view _ _ c.self.invariant.0 in
    rw (c.append.ensures.events, c.advance.ensures.events, c.add_buffer.ensures, c.advance.ensures.rows, id) (
      ties_after (with_row c.args.row view) _ _ _ _ c.args.event ties c.requires.quiet next _ (assigns_to (with_row c.args.row view) c.args.event _ _ next (rw job at to)) steps
          (c.after-self-inside.ensures _ c.self.invariant.0.stands _ next.permitted called),
      c.self.invariant.1,
      (λ open'. omega (arith, c.in_default.ensures.room, c.append.ensures.room)),
      newest_made c.args.row view c.args.event c.self.invariant.3 comes,
      (let one = c.blocks_in.ensures.said in let n = c.self.invariant.4 in omega (arith, one, n)),
      (let one = c.posts_in.ensures.said in let n = c.self.invariant.5 in omega (arith, one, n)),
      c.self.invariant.6,
      c.open_after-self-inside.ensures _ c.self.invariant.7,
    )
