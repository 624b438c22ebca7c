use Rattle.std.proofs.Common.{not, ap, ◌∙◌, arith}
use Rattle.es_event.specs.Identities.{is_in}
use Rattle.es_ticket.specs.Stakes.{is_rising_from}
use Rattle.es_ticket.proofs.Parted.{none_picked, rises_picked}
use Rattle.es_ticket.proofs.rack.Rack.extract.Goals as goal

-- where there is no room none is to come out
pub returns-then-capacity-eq0-clause-rest : goal.returns-then-capacity-eq0-clause-rest
returns-then-capacity-eq0-clause-rest g c =
    let room = c.requires.room in
    let free = ap (λ r. r.room) c.room.view_is in
    none_picked (λ t. is_in c.args.ids.now t.0) c.args.self.now.tickets (omega (arith, room, free, c.capacity.ensures, c.if-capacity-eq0.true))

pub invariant_of-self : goal.invariant_of-self
invariant_of-self g c =
    let rising = ap (λ v. is_rising_from 0 v.items) c.replace-kept.ensures.value ∙ c.self.invariant in
    let left = ap (λ v. v.items) c.replace.ensures.after ∙ c.part-taken.ensures.rest in
    ap (is_rising_from 0) left ∙ rises_picked (λ t. not (is_in c.of.result t.0)) 0 c.replace-kept.result.items rising

pub invariant_of-result-2 : goal.invariant_of-result-2
invariant_of-result-2 g c =
    let rising = ap (λ v. is_rising_from 0 v.items) c.replace-kept.ensures.value ∙ c.self.invariant in
    ap (is_rising_from 0) c.part-taken.ensures.taken ∙ rises_picked (λ t. is_in c.of.result t.0) 0 c.replace-kept.result.items rising
