use Rattle.std.proofs.Common.{◌≡◌, sym, ap, ◌∙◌, ◌∷◌, map, subst}
use Rattle.es_event.specs.Ledger.{ended}
use Rattle.es_event.specs.declared.ledger_event.LedgerEvent.TheVariants.{Spent, Acted}
use Rattle.es_event.specs.declared.ledger_event.Act.TheVariants.{Ended}
use Rattle.es_rules.specs.Needs.{asks_closing, asks_nothing}
use Rattle.es_cluster.proofs.CountingTickets.{spent_over}
use Rattle.es_cluster.proofs.MovingMembers.{closed_moves, closed_keeps}
use Rattle.es_cluster.specs.Tied.{AreDeedsOf}
use Rattle.es_cluster.proofs.Tying.{closed_ties}
use Rattle.es_cluster.proofs.Midway.{whole}
use Rattle.es_cluster.proofs.turns.close.Goals as goal

pub ended-requires-clause-before : goal.ended-requires-clause-before
ended-requires-clause-before g c =
    let number = c.number.ensures ∙ ap (λ b. b.number) c.close-rack.ensures.records in
    ap (ended c.spend_all.new.ledger.history) number
    ∙ ap (λ l. ended l c.args.core.now.number) c.spend_all.ensures.ledger.1
    ∙ spent_over c.close-rack.result.tickets c.args.ledger.now.history c.args.core.now.number
    ∙ c.requires.ready.going (λ none. let clash : asks_closing ≡ asks_nothing = sym c.requires.due ∙ none in cc)

pub returns-clause-ok : goal.returns-clause-ok
returns-clause-ok g c = closed_moves c.args.core.now c.close-rack.new.self c.requires.due c.close-rack.ensures.records

pub returns-clause-keeps : goal.returns-clause-keeps
returns-clause-keeps g c =
    let number = c.number.ensures ∙ ap (λ b. b.number) c.close-rack.ensures.records in
    let history = c.ended.ensures.1 ∙ ap (λ n. Acted n Ended ∷ c.spend_all.new.ledger.history) number ∙ ap (λ l. Acted c.args.core.now.number Ended ∷ l) c.spend_all.ensures.ledger.1 in
    closed_keeps c.args.core.now c.close-rack.new.self c.args.ledger.now c.ended.new.self c.args.stake.now c.spend_all.new.stake c.close-rack.result.tickets c.close-rack.ensures.records c.close-rack.ensures.rack c.requires.ready.held
    c.spend_all.ensures.agent c.spend_all.ensures.counts (c.ended.ensures.0 ∙ c.spend_all.ensures.ledger.0) history
    (subst (λ n. AreDeedsOf n (map (λ t. Spent t.1.serial) c.close-rack.result.tickets) c.args.ledger.now.history) c.requires.ready.held.0 c.spend_all.ensures.deeds)

pub returns-clause-tied : goal.returns-clause-tied
returns-clause-tied g c =
    let number = c.number.ensures ∙ ap (λ b. b.number) c.close-rack.ensures.records in
    let history = c.ended.ensures.1 ∙ ap (λ n. Acted n Ended ∷ c.spend_all.new.ledger.history) number ∙ ap (λ l. Acted c.args.core.now.number Ended ∷ l) c.spend_all.ensures.ledger.1 in
    λ seated tied. closed_ties c.args.core.now c.close-rack.new.self c.args.stake.now c.args.ledger.now c.ended.new.self.history c.close-rack.result.tickets (whole c.requires.ready seated tied) c.requires.due c.close-rack.ensures.records c.close-rack.ensures.rack
    (subst (λ n. AreDeedsOf n (map (λ t. Spent t.1.serial) c.close-rack.result.tickets) c.args.ledger.now.history) c.requires.ready.held.0 c.spend_all.ensures.deeds) history
