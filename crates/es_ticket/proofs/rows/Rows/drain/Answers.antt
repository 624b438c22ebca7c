use Rattle.std.proofs.Common.{[], List, refl, sym, ap, ◌∙◌}
use Rattle.es_event.specs.Rows.{held, is_agent, is_port, rows_by}
use Rattle.es_ticket.specs.Stakes.{erase}
use Rattle.es_ticket.specs.Views.{ledger_view}
use Rattle.es_event.specs.declared.row.Entry.{Entry}
use Rattle.es_event.specs.declared.row.Row.{Row}
use Rattle.es_event.specs.declared.row.Holder.TheVariants.{Nobody}
use Rattle.es_ticket.proofs.Holders.{of_port}
use Rattle.es_ticket.proofs.Rising.{contains_same}
use Rattle.es_ticket.proofs.Lines.{numbered_moved, in_table, others_keep, leaves}
use Rattle.es_ticket.proofs.rows.Rows.drain.Goals as goal

pub hand_over-requires-clause-there : goal.hand_over-requires-clause-there
hand_over-requires-clause-there g c =
    let q = is_port c.args.sender c.args.receiver in
    let e : List Entry = c.self.inside.entries.items in
    let rows = ap (λ d. rows_by q d.rows) c.self.view_is in
    in_table q c.ticket.inside.row e c.self.invariant.4 (contains_same _ _ _ _ rows c.ticket.view_is c.requires)

pub note-requires-clause-others : goal.note-requires-clause-others
note-requires-clause-others g c b =
    let q = is_port c.args.sender c.args.receiver in
    let e : List Entry = c.self.inside.entries.items in
    let rows = ap (λ d. rows_by q d.rows) c.self.view_is in
    rw (c.hand_over.ensures)
    (others_keep q (is_agent b) 1 Nobody c.ticket.inside.row e c.self.invariant.4 (contains_same _ _ _ _ rows c.ticket.view_is c.requires) (of_port c.args.sender c.args.receiver b) refl
    ∙ sym (ap (λ m. held b m.0.ledger.rows) c.self.invariant.3))

pub invariant_of-self : goal.invariant_of-self
invariant_of-self g c =
    let i = c.self.invariant in (
      i.0,
      i.1,
      c.note.ensures.0 ∙ i.2,
      c.note.ensures.1 ∙ ap (λ m. (ledger_view c.hand_over.new.entries.items 0 m.0.ledger.agents, [])) i.3,
      rw (c.hand_over.ensures) (numbered_moved 1 c.ticket.inside.row.serial Nobody c.self.inside.entries.items i.4),
    )

pub returns-clause-port : goal.returns-clause-port
returns-clause-port g c =
    let q = is_port c.args.sender c.args.receiver in
    let e : List Entry = c.self.inside.entries.items in
    let r : Row = c.ticket.inside.row in
    let rows = ap (λ d. rows_by q d.rows) c.self.view_is in
    rw (c.hand_over.ensures) (leaves q 1 Nobody r e c.self.invariant.4 (contains_same _ _ _ _ rows c.ticket.view_is c.requires) refl)
    ∙ ap (λ (x : Row). erase x.serial (rows_by q e)) c.ticket.view_is ∙ ap (erase c.args.ticket.serial) rows
