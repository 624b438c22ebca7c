use Rattle.std.proofs.Common.{arith, ◌∙◌, ap, sym, subst, [], None}
use Rattle.std.specs.Prelude.{is_some}
use Rattle.es_event.specs.declared.event.Event.{Event}
use Rattle.es_event.specs.declared.event.Event.TheVariants.{Did}
use Rattle.es_record.specs.AgentView.{AgentView}
use Rattle.es_tables.specs.Plain.{IsPlain}
use Rattle.es_tables.specs.Registries.{again_at}
use Rattle.es_record.proofs.Plain.{opens_none, posts_none, opens_no_later}
use Rattle.es_record.proofs.Steps.{ties_after, ties_same, can_record, newest_made}
use Rattle.es_record.proofs.agent_record.AgentRecord.record_done.Goals as goal

pub advance_done-requires : goal.advance_done-requires
advance_done-requires c =
    let view : AgentView = record { plan = c.self.inside.plan; number = c.self.inside.number; agents = c.self.inside.agents; over = c.self.inside.buffers.rows; history = c.self.inside.events.events } in
    can_record view _ _ _ c.self.invariant.0 (rw (← c.self.view_is) at c.requires)

-- where there was no memory
pub invariant_of-self : goal.invariant_of-self
invariant_of-self c =
    let same = rw c.in-Err.is at c.advance_done.ensures.err in
    rw c.advance_done.ensures.events
    (ties_same _ _ _ _ _ _ c.self.invariant.0 same, c.self.invariant.1, (λ open'. let room = c.self.invariant.2 open' in omega (arith, room, c.advance_done.ensures.kept)), c.self.invariant.3, c.self.invariant.4, c.self.invariant.5, c.self.invariant.6, c.self.invariant.7)

pub invariant_of-self-2 : goal.invariant_of-self-2
invariant_of-self-2 c =
    let view : AgentView = record { plan = c.self.inside.plan; number = c.self.inside.number; agents = c.self.inside.agents; over = c.self.inside.buffers.rows; history = c.self.inside.events.events } in
    let did = c.args.done in
    let event : Event = Did did in
    let plain : IsPlain did.0 = subst IsPlain c.command.ensures (c.is_plain.ensures c.if-not-is_plain.false) in
    let next = rw (← c.self.view_is) at c.requires in
    let steps = c.in_default.ensures.ok in
    rw (c.append.ensures.events, c.advance_done.ensures.events) (
      ties_after view _ _ _ _ event c.self.invariant.0 tt next [] tt (steps [] (again_at c.self.inside.events.events))
          (c.pass_command.ensures _ c.self.invariant.0.stands did.0 did.1 did.2),
      c.self.invariant.1,
      (λ open'. omega (arith, c.in_default.ensures.room, c.append.ensures.room)),
      newest_made None view event c.self.invariant.3 (λ r is. cc),
      (let none = opens_none did.0 did.1 did.2 plain in let n = c.self.invariant.4 in omega (arith, none, n)),
      (let none = posts_none did.0 did.1 did.2 plain in let n = c.self.invariant.5 in omega (arith, none, n)),
      c.self.invariant.6,
      c.self.invariant.7 ∙ sym (ap (λ o. is_some o) (opens_no_later did.0 did.1 did.2 c.self.inside.events.events plain)),
    )
