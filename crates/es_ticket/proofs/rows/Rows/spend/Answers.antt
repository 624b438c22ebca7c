use Rattle.std.proofs.Common.{rules, ◌≡◌, ◌+◌, ◌∷◌, ◌++◌, [], List, cond, refl, sym, ap, ◌∙◌, subst}
use Rattle.std.specs.List.{count_by}
use Rattle.es_event.specs.Rows.{held, is_agent}
use Rattle.es_ticket.specs.Stakes.{erase}
use Rattle.es_ticket.specs.Views.{ledger_view}
use Rattle.es_event.specs.declared.row.Entry.{Entry}
use Rattle.es_event.specs.declared.row.Row.{Row}
use Rattle.es_event.specs.declared.row.Holder.TheVariants.{Nobody}
use Rattle.es_ticket.proofs.Holders.{of_another}
use Rattle.es_ticket.proofs.Rising.{Rising, erase_middle, contains_same, contains_split, count_middle}
use Rattle.es_ticket.proofs.Lines.{rows_rise, numbered_moved, in_table, others_keep, leaves}
use Rattle.es_ticket.proofs.rows.Rows.spend.Goals as goal

pub hand_over-requires-clause-there : goal.hand_over-requires-clause-there
hand_over-requires-clause-there g c =
    let n = c.stake.inside.number in
    let e : List Entry = c.self.inside.entries.items in
    let r : Row = c.ticket.inside.row in
    let told = c.look.ensures.told in
    let number = ap (λ m. m.0.agent.number) c.stake.invariant.2 in
    let rows = ap (λ m. m.0.ledger.rows) c.self.invariant.3 in
    let before = sym (rw (number, rows) at told) ∙ ap (λ s. s.rows) c.stake.view_is in
    in_table (is_agent n) r e c.self.invariant.4 (contains_same _ _ _ _ before c.ticket.view_is c.requires)

pub change-requires-clause-others : goal.change-requires-clause-others
change-requires-clause-others g c b apart =
    let n = c.stake.inside.number in
    let e : List Entry = c.self.inside.entries.items in
    let r : Row = c.ticket.inside.row in
    let told = c.look.ensures.told in
    let number = ap (λ m. m.0.agent.number) c.stake.invariant.2 in
    let rows = ap (λ m. m.0.ledger.rows) c.self.invariant.3 in
    let before = sym (rw (number, rows) at told) ∙ ap (λ s. s.rows) c.stake.view_is in
    let known = c.look.ensures.ledger.1 ∙ c.self.invariant.3 in
    rw (c.hand_over.ensures)
    (others_keep (is_agent n) (is_agent b) 1 Nobody r e c.self.invariant.4 (contains_same _ _ _ _ before c.ticket.view_is c.requires) (λ h. of_another n b h apart) refl
    ∙ sym (ap (λ m. held b m.0.ledger.rows) known))

pub invariant_of-self : goal.invariant_of-self
invariant_of-self g c =
    let i = c.self.invariant in (
      i.0,
      i.1,
      c.change.ensures.ledger.0 ∙ c.look.ensures.ledger.0 ∙ i.2,
      c.change.ensures.ledger.1 ∙ ap (λ m. (ledger_view c.hand_over.new.entries.items 0 m.0.ledger.agents, [])) (c.look.ensures.ledger.1 ∙ i.3),
      rw (c.hand_over.ensures) (numbered_moved 1 c.ticket.inside.row.serial Nobody c.self.inside.entries.items i.4),
    )

pub returns : goal.returns
returns g c =
    let n = c.stake.inside.number in
    let e : List Entry = c.self.inside.entries.items in
    let r : Row = c.ticket.inside.row in
    let numbered = c.self.invariant.4 in
    let told = c.look.ensures.told in
    let number = ap (λ m. m.0.agent.number) c.stake.invariant.2 in
    let rows = ap (λ m. m.0.ledger.rows) c.self.invariant.3 in
    let before = sym (rw (number, rows) at told) ∙ ap (λ s. s.rows) c.stake.view_is in
    let now : c.change.new.agent.me.0.agent.mine ≡ erase c.args.ticket.serial c.args.stake.now.rows =
    ap (λ m. m.0.agent.mine) c.change.ensures.agent.1
    ∙ rw (c.hand_over.ensures) (leaves (is_agent n) 1 Nobody r e numbered (contains_same _ _ _ _ before c.ticket.view_is c.requires) refl)
    ∙ ap (erase r.serial) before ∙ ap (λ (x : Row). erase x.serial c.args.stake.now.rows) c.ticket.view_is in
    let place : (xs ys : List Row) → c.args.stake.now.rows ≡ xs ++ c.args.ticket ∷ ys → c.change.new.agent.me.0.agent.mine ≡ xs ++ ys =
    λ xs ys is. now ∙ ap (erase c.args.ticket.serial) is ∙ erase_middle 1 xs ys c.args.ticket (subst (Rising 1) (before ∙ is) (rows_rise (is_agent n) 1 e numbered)) in
    let split = contains_split c.args.stake.now.rows c.args.ticket c.requires in
    record {
      stake = (ap (λ s. s.agent) c.stake.view_is, now);
      place = place;
      counts = λ p.
          ap (count_by p) split.2 ∙ count_middle p split.0 split.1 c.args.ticket
          ∙ ap (λ l. count_by p l + cond (p c.args.ticket) 1 0) (sym (place split.0 split.1 split.2));
      table = search rules;
    }
