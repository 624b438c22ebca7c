use Rattle.std.proofs.Common.{[], length, refl, sym, ap, ◌∙◌, arith}
use Rattle.es_event.specs.Rows.{held, is_agent}
use Rattle.es_ticket.specs.Views.{ledger_view}
use Rattle.es_event.specs.declared.row.Holder.TheVariants.{Port}
use Rattle.es_ticket.proofs.Lines.{numbered_append, rows_same}
use Rattle.es_ticket.proofs.rows.Rows.post.Goals as goal

pub note-requires-clause-others : goal.note-requires-clause-others
note-requires-clause-others g c b =
    rw (c.push_reserved.ensures.items, c.reserve.ensures.items)
    (rows_same (is_agent b) (Port c.args.sender c.args.receiver) _ c.self.inside.entries.items refl ∙ sym (ap (λ m. held b m.0.ledger.rows) c.self.invariant.3))

pub invariant_of-self-2 : goal.invariant_of-self-2
invariant_of-self-2 g c =
    let i = c.self.invariant in
    let items = c.push_reserved.ensures.items in let old = c.reserve.ensures.items in
    let same = ap length old in let len = c.len.ensures in (
      i.0,
      i.1,
      c.note.ensures.0 ∙ i.2,
      c.note.ensures.1 ∙ ap (λ m. (ledger_view c.push_reserved.new.self.items 0 m.0.ledger.agents, [])) i.3,
      rw (items, old) (numbered_append 1 c.self.inside.entries.items _ (omega arith) i.4),
    )
