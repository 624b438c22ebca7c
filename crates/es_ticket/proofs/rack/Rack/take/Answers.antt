use Rattle.std.proofs.Common.{sym, ap, ◌∙◌}
use Rattle.es_ticket.specs.Stakes.{is_rising_from}
use Rattle.es_ticket.proofs.Racked.{rises_removed}
use Rattle.es_ticket.proofs.rack.Rack.take.Goals as goal

pub invariant_of-self : goal.invariant_of-self
invariant_of-self g c =
    let found = sym (ap (is_rising_from 0) c.in-Ok.ensures.found.1) in
    ap (is_rising_from 0) c.remove.ensures.items ∙ rw c.deref.ensures.value at found ∙ rises_removed 0 c.args.id c.self.inside.kept.items c.self.invariant
