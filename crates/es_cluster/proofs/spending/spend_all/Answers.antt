use Rattle.std.proofs.Common.{◌∙◌, sym, ap, arith, Bool, length, length-append, append_assoc, ◌∷◌, ◌++◌, [], Some}
use Rattle.std.specs.List.{count_by}
use Rattle.es_event.specs.declared.row.Row.{Row}
use Rattle.es_event.specs.declared.ledger_event.LedgerEvent.TheVariants.{Spent}
use Rattle.es_match.specs.Deeds.{Spends, by_holder}
use Rattle.es_cluster.specs.Turned.{spent}
use Rattle.es_cluster.proofs.Growing.{by_ticket}
use Rattle.es_ticket.proofs.Counted.{owned_last, counted_last}
use Rattle.es_cluster.proofs.CountingTickets.{spent_last}
use Rattle.es_cluster.proofs.spending.spend_all.Goals as goal

pub spend-requires : goal.spend-requires
spend-requires g c =
    let last = c.in-Some.ensures.some in
    let all = rw last.1 at c.loop-place.invariant.owns in
    owned_last c.loop-place.stake.rows last.0 c.in-Some.ticket c.pop.new.self.tickets all

pub loop-place-preserved : goal.loop-place-preserved
loop-place-preserved g c =
    let last = c.in-Some.ensures.some in
    let left = c.pop.new.self.tickets in
    let was = c.loop-place.invariant in
    let mine = by_ticket c.loop-place.ledger.history c.in-Some.ticket.serial c.loop-place.stake.agent c.in-Some.ticket (Spends c.in-Some.ticket.serial) c.spend.ensures.holder ∙ ap (λ n. Some (n, Spends c.in-Some.ticket.serial)) was.agent in
    let one = λ (p : Row → Bool). ap (λ ts. count_by (λ t. p t.1) ts) last.1 ∙ counted_last p last.0 c.in-Some.ticket left in
    record {
      owns = λ p. (let a = was.owns p in let b = one p in let d = c.spend.ensures.counts p in omega (arith, a, b, d));
      rest = (let a = was.rest in let b = ap length last.1 in let d = length-append left ((last.0, c.in-Some.ticket) ∷ []) in omega (arith, a, b, d));
      agents = c.spend.ensures.history.0 ∙ was.agents;
      history = ap (spent left) c.spend.ensures.history.1 ∙ sym (spent_last left last.0 c.in-Some.ticket c.loop-place.ledger.history) ∙ ap (λ ts. spent ts c.loop-place.ledger.history) (sym last.1) ∙ was.history;
      spendings = (
        (last.0, c.in-Some.ticket) ∷ was.spendings.0,
        was.spendings.1 ∙ ap (λ ts. ts ++ was.spendings.0) last.1 ∙ append_assoc left ((last.0, c.in-Some.ticket) ∷ []) was.spendings.0,
        c.spend.ensures.history.1 ∙ ap (λ l. Spent c.in-Some.ticket.serial ∷ l) was.spendings.2,
        ((Spends c.in-Some.ticket.serial, ap (λ l. by_holder l c.in-Some.ticket.serial (Spends c.in-Some.ticket.serial)) (sym was.spendings.2) ∙ mine), was.spendings.3),
      );
      agent = c.spend.ensures.stake.0 ∙ was.agent;
      spent = λ p. (let a = was.spent p in let b = one p in let d = c.spend.ensures.counts p in omega (arith, a, b, d));
    }
