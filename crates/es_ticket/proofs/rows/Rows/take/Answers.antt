use Rattle.std.proofs.Common.{rules, ◌≡◌, ◌+◌, ◌++◌, ◌∷◌, [], List, cond, refl, sym, ap, ◌∙◌}
use Rattle.std.specs.List.{count_by}
use Rattle.es_event.specs.Rows.{held, is_agent, is_port, rows_by}
use Rattle.es_ticket.specs.Stakes.{erase, has_serial}
use Rattle.es_ticket.specs.Views.{ledger_view}
use Rattle.es_event.specs.declared.row.Entry.{Entry}
use Rattle.es_event.specs.declared.row.Row.{Row}
use Rattle.es_event.specs.declared.row.Holder.TheVariants.{Agent}
use Rattle.es_ticket.proofs.Holders.{of_itself, of_another, of_port}
use Rattle.es_ticket.proofs.Rising.{contains_same, contains_middle, count_middle}
use Rattle.es_ticket.proofs.Lines.{numbered_moved, in_table, others_keep, leaves, comes}
use Rattle.es_ticket.proofs.rows.Rows.take.Goals as goal

pub hand_over-requires-clause-there : goal.hand_over-requires-clause-there
hand_over-requires-clause-there g c =
    let q = is_port c.args.sender c.args.receiver in
    let e : List Entry = c.self.inside.entries.items in
    let rows = ap (λ d. rows_by q d.rows) c.self.view_is in
    in_table q c.ticket.inside.row e c.self.invariant.4 (contains_same _ _ _ _ rows c.ticket.view_is c.requires)

pub change-requires-clause-others : goal.change-requires-clause-others
change-requires-clause-others g c b apart =
    let n = c.stake.inside.number in
    let q = is_port c.args.sender c.args.receiver in
    let e : List Entry = c.self.inside.entries.items in
    let rows = ap (λ d. rows_by q d.rows) c.self.view_is in
    let known = c.look.ensures.ledger.1 ∙ c.self.invariant.3 in
    rw (c.hand_over.ensures)
    (others_keep q (is_agent b) 1 (Agent n) c.ticket.inside.row e c.self.invariant.4 (contains_same _ _ _ _ rows c.ticket.view_is c.requires) (of_port c.args.sender c.args.receiver b)
    (of_another n b (Agent n) apart (of_itself n))
    ∙ sym (ap (λ m. held b m.0.ledger.rows) known))

pub invariant_of-self : goal.invariant_of-self
invariant_of-self g c =
    let i = c.self.invariant in (
      i.0,
      i.1,
      c.change.ensures.ledger.0 ∙ c.look.ensures.ledger.0 ∙ i.2,
      c.change.ensures.ledger.1 ∙ ap (λ m. (ledger_view c.hand_over.new.entries.items 0 m.0.ledger.agents, [])) (c.look.ensures.ledger.1 ∙ i.3),
      rw (c.hand_over.ensures) (numbered_moved 1 c.ticket.inside.row.serial (Agent c.stake.inside.number) c.self.inside.entries.items i.4),
    )

pub returns : goal.returns
returns g c =
    let n = c.stake.inside.number in
    let q = is_port c.args.sender c.args.receiver in
    let e : List Entry = c.self.inside.entries.items in
    let r : Row = c.ticket.inside.row in
    let numbered = c.self.invariant.4 in
    let rows = ap (λ d. rows_by q d.rows) c.self.view_is in
    let there = contains_same _ _ _ _ rows c.ticket.view_is c.requires in
    let told = c.look.ensures.told in
    let number = ap (λ m. m.0.agent.number) c.stake.invariant.2 in
    let known = ap (λ m. m.0.ledger.rows) c.self.invariant.3 in
    let before = sym (rw (number, known) at told) ∙ ap (λ s. s.rows) c.stake.view_is in
    let come = comes q (is_agent n) 1 (Agent n) r e numbered there (of_port c.args.sender c.args.receiver n) (of_itself n) in
    let now : c.change.new.agent.me.0.agent.mine ≡ come.before ++ r ∷ come.behind = ap (λ m. m.0.agent.mine) c.change.ensures.agent.1 ∙ rw (c.hand_over.ensures) come.now in
    record {
      stake = search rules;
      fresh = sym (ap (has_serial r.serial) before ∙ ap (λ (x : Row). has_serial x.serial c.args.stake.now.rows) c.ticket.view_is) ∙ come.lacked;
      has = contains_same _ _ _ _ now (sym c.ticket.view_is) (contains_middle come.before come.behind r);
      counts = λ p.
          ap (count_by p) now
          ∙ count_middle p come.before come.behind r
          ∙ ap (λ l. count_by p l + cond (p r) 1 0) (sym come.was ∙ before)
          ∙ ap (λ (x : Row). count_by p c.args.stake.now.rows + cond (p x) 1 0) c.ticket.view_is;
      table = search rules;
      told = search rules;
      port =
          rw (c.hand_over.ensures) (leaves q 1 (Agent n) r e numbered there refl)
          ∙ ap (λ (x : Row). erase x.serial (rows_by q e)) c.ticket.view_is ∙ ap (erase c.args.ticket.now.serial) rows;
    }
