use Rattle.std.proofs.Common.{◌∙◌, ap, arith, Bool, length, length-append, ◌∷◌, []}
use Rattle.std.specs.List.{count_by}
use Rattle.es_event.specs.declared.row.Row.{Row}
use Rattle.es_ticket.proofs.Counted.{owned_last, counted_last}
use Rattle.calls.proofs.alone.spend_all.Goals as goal

pub spend-requires : goal.spend-requires
spend-requires g c =
    let last = c.in-Some.ensures.some in
    let all = rw last.1 at c.loop-place.invariant.owns in
    owned_last c.loop-place.stake.rows last.0 c.in-Some.ticket c.pop.new.self.tickets all

pub loop-place-preserved : goal.loop-place-preserved
loop-place-preserved g c =
    let last = c.in-Some.ensures.some in
    let left = c.pop.new.self.tickets in
    let was = c.loop-place.invariant in
    let one = λ (p : Row → Bool). ap (λ ts. count_by (λ t. p t.1) ts) last.1 ∙ counted_last p last.0 c.in-Some.ticket left in
    record {
      owns = λ p. (let a = was.owns p in let b = one p in let d = c.spend.ensures.counts p in omega (arith, a, b, d));
      rest = (let a = was.rest in let b = ap length last.1 in let d = length-append left ((last.0, c.in-Some.ticket) ∷ []) in omega (arith, a, b, d));
      agents = c.spend.ensures.history.0 ∙ was.agents;
      agent = c.spend.ensures.stake.0 ∙ was.agent;
      spent = λ p. (let a = was.spent p in let b = one p in let d = c.spend.ensures.counts p in omega (arith, a, b, d));
    }
