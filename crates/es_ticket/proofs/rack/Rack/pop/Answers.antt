use Rattle.std.proofs.Common.{sym, ap, ◌∙◌}
use Rattle.es_ticket.specs.Stakes.{is_rising_from}
use Rattle.es_ticket.proofs.Racked.{rises_before}
use Rattle.es_ticket.proofs.rack.Rack.pop.Goals as goal

pub invariant_of-self : goal.invariant_of-self
invariant_of-self g c = rises_before 0 c.pop.new.self.items _ (sym (ap (is_rising_from 0) c.pop.ensures.items) ∙ c.self.invariant)
