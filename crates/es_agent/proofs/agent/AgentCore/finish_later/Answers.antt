use Rattle.std.proofs.Common.{◌∙◌, ap, sym, subst}
use Rattle.es_ticket.specs.Stakes.{among}
use Rattle.es_record.specs.AgentView.{emptied_last}
use Rattle.es_record.specs.Graph.{AreLateMarks}
use Rattle.es_agent.specs.Tickets.{AreLateNow}
use Rattle.es_agent.proofs.Racks.{late_next_of, has_collected}
use Rattle.es_agent.proofs.agent.AgentCore.finish_later.Goals as goal

pub empty-requires : goal.empty-requires
empty-requires g c =
    let due = rw (← c.self.view_is) at c.requires.due in
    late_next_of c.self.inside.record c.read.result.now c.in_ok-ids.ids.items c.read.ensures due c.in_ok-ids.ensures.late c.in_ok-ids.ensures.there c.in_ok-ids.ensures.rising

pub invariant_of-self-2 : goal.invariant_of-self-2
invariant_of-self-2 g c =
    let due = rw (← c.self.view_is) at c.requires.due in
    let late = c.in_ok-ids.ensures in
    let records = c.in_default.ensures.ok in
    let next = late_next_of c.self.inside.record c.read.result.now c.in_ok-ids.ids.items c.read.ensures due late.late late.there late.rising in
    let ids = c.emptied_last.ensures ∙ ap (λ b. emptied_last b.history) (c.read-2.ensures ∙ records) in
    rw (c.extract.ensures.rest, ids) (has_collected c.self.inside.rack.tickets c.self.inside.record c.empty.new.self c.in_ok-ids.ids.items c.self.invariant next records)

pub late-requires-clause-marks : goal.late-requires-clause-marks
late-requires-clause-marks g c =
    let marks = rw (← c.self.view_is) at c.requires.marks in
    subst (λ b. AreLateMarks b c.args.marks.now) (sym c.read.ensures) marks

pub returns-clause-ok : goal.returns-clause-ok
returns-clause-ok g c =
    let due = rw (← c.self.view_is) at c.requires.due in
    let late = c.in_ok-ids.ensures in
    let records = c.in_default.ensures.ok in
    let next = late_next_of c.self.inside.record c.read.result.now c.in_ok-ids.ids.items c.read.ensures due late.late late.there late.rising in
    let ids = c.emptied_last.ensures ∙ ap (λ b. emptied_last b.history) (c.read-2.ensures ∙ records) in
    rw (← c.self.view_is) (
      c.in_ok-ids.ids.items,
      subst (λ b. AreLateNow b c.in_ok-ids.ids.items) c.read.ensures late.late,
      next,
      records,
      c.extract.ensures.taken ∙ ap (λ l. among l c.self.inside.rack.tickets) ids ∙ ap (among c.in_ok-ids.ids.items) c.self.invariant.0,
    )
