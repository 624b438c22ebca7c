use Rattle.std.proofs.Common.{◌+◌, ◌++◌, ◌∷◌, [], length, sym, ap, ◌∙◌, arith}
use Rattle.es_event.specs.Rows.{held, is_agent}
use Rattle.es_ticket.specs.Stakes.{has_serial}
use Rattle.es_event.specs.Rows.{row}
use Rattle.es_ticket.specs.Views.{ledger_view}
use Rattle.es_event.specs.declared.row.Row.{Row}
use Rattle.es_event.specs.declared.row.Holder.TheVariants.{Agent}
use Rattle.es_ticket.proofs.Holders.{of_itself, of_another}
use Rattle.es_ticket.proofs.Lines.{numbered_append, rows_more, rows_same, rows_lack}
use Rattle.es_ticket.proofs.rows.Rows.open.Goals as goal

pub change-requires-clause-others : goal.change-requires-clause-others
change-requires-clause-others g c b apart =
    let n = c.stake.inside.number in
    let known = c.look.ensures.ledger.1 ∙ c.self.invariant.3 in
    rw (c.push_reserved.ensures.items, c.reserve.ensures.items)
    (rows_same (is_agent b) (Agent n) (row (c.len.result + 1) c.args.block c.args.words) c.self.inside.entries.items (of_another n b (Agent n) apart (of_itself n))
    ∙ sym (ap (λ m. held b m.0.ledger.rows) known))

pub invariant_of-self-2 : goal.invariant_of-self-2
invariant_of-self-2 g c =
    let i = c.self.invariant in
    let items = c.push_reserved.ensures.items in let old = c.reserve.ensures.items in
    let same = ap length old in let len = c.len.ensures in (
      i.0,
      i.1,
      c.change.ensures.ledger.0 ∙ c.look.ensures.ledger.0 ∙ i.2,
      c.change.ensures.ledger.1 ∙ ap (λ m. (ledger_view c.push_reserved.new.self.items 0 m.0.ledger.agents, [])) (c.look.ensures.ledger.1 ∙ i.3),
      rw (items, old) (numbered_append 1 c.self.inside.entries.items _ (omega arith) i.4),
    )

pub returns-clause-stake : goal.returns-clause-stake
returns-clause-stake g c =
    let n = c.stake.inside.number in
    let told = c.look.ensures.told in
    let number = ap (λ m. m.0.agent.number) c.stake.invariant.2 in
    let rows = ap (λ m. m.0.ledger.rows) c.self.invariant.3 in
    let r : Row = row (c.len.result + 1) c.args.block c.args.words in
    let before = sym (rw (number, rows) at told) ∙ ap (λ s. s.rows) c.stake.view_is in (
      ap (λ s. s.agent) c.stake.view_is,
      ap (λ m. m.0.agent.mine) c.change.ensures.agent.1
          ∙ rw (c.push_reserved.ensures.items, c.reserve.ensures.items) (rows_more (is_agent n) (Agent n) r c.self.inside.entries.items (of_itself n)) ∙ ap (λ l. l ++ r ∷ []) before,
    )

pub returns-clause-fresh : goal.returns-clause-fresh
returns-clause-fresh g c =
    let n = c.stake.inside.number in
    let number = ap (λ m. m.0.agent.number) c.stake.invariant.2 in
    let rows = ap (λ m. m.0.ledger.rows) c.self.invariant.3 in
    let told = c.look.ensures.told in
    let before = sym (rw (number, rows) at told) ∙ ap (λ s. s.rows) c.stake.view_is in
    let same = ap length c.reserve.ensures.items in let len = c.len.ensures in
    sym (ap (has_serial (c.len.result + 1)) before)
    ∙ rows_lack (is_agent n) (Agent n) 1 (row (c.len.result + 1) c.args.block c.args.words) c.self.inside.entries.items (of_itself n) (omega arith) c.self.invariant.4
