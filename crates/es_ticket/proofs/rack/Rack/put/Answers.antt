use Rattle.std.proofs.Common.{◌≡◌, sym, ap, ◌∙◌, List, ℕ, Bool, true, false, cond, is_ok}
use Rattle.es_event.specs.declared.row.Row.{Row}
use Rattle.es_ticket.specs.Stakes.{at, is_rising_from}
use Rattle.es_event.specs.Rows.{row}
use Rattle.es_ticket.proofs.Racked.{rises_placed}
use Rattle.es_ticket.proofs.rack.Rack.put.Goals as goal

either_rises : (b : Bool) (new more old : List (ℕ × Row)) → new ≡ cond b more old → is_rising_from 0 more ≡ true → is_rising_from 0 old ≡ true → is_rising_from 0 new ≡ true
either_rises true new more old is m o = ap (is_rising_from 0) is ∙ m
either_rises false new more old is m o = ap (is_rising_from 0) is ∙ o

pub unreachable-requires : goal.unreachable-requires
unreachable-requires g c =
    let found = c.in_default.ensures.found.2 (0, row 0 0 0) in
    let here = ap (at c.args.id) c.deref.ensures.value ∙ ap (λ r. at c.args.id r.tickets) c.self.view_is ∙ c.requires in
    let clash = sym found ∙ here in cc

pub invariant_of-self : goal.invariant_of-self
invariant_of-self g c =
    let here = c.deref.ensures.value in
    let none = ap (λ r. at c.args.id r.tickets) c.self.view_is ∙ c.requires in
    let missing = c.in-Err.ensures.missing.2 c.args.ticket in
    either_rises (is_ok c.insert.result) c.insert.new.self.items _ c.self.inside.kept.items c.insert.ensures.items
    (rw here at (sym (ap (is_rising_from 0) missing)) ∙ rises_placed 0 c.args.id c.args.ticket c.self.inside.kept.items c.place_of.ensures.positive c.self.invariant none) c.self.invariant
