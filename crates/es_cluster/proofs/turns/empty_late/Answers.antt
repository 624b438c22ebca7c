use Rattle.std.proofs.Common.{refl, ap, map, subst, ◌∙◌}
use Rattle.es_event.specs.declared.ledger_event.LedgerEvent.TheVariants.{Spent}
use Rattle.es_event.specs.Ledger.{ended}
use Rattle.es_cluster.specs.Tied.{AreDeedsOf}
use Rattle.es_cluster.proofs.CountingTickets.{spent_over}
use Rattle.es_cluster.proofs.MovingMembers.{kept, keeps, collected_step, collected_owns, collected_holds}
use Rattle.es_cluster.proofs.Tying.{finished_ties}
use Rattle.es_cluster.proofs.Midway.{whole}
use Rattle.es_cluster.proofs.turns.empty_late.Goals as goal

pub spend_all-requires : goal.spend_all-requires
spend_all-requires g c = collected_owns c.args.core.now c.finish_later.new.self c.args.stake.now c.in_ok-rack.rack.tickets c.in_ok-rack.ensures.ok c.requires.ready.held

pub returns-in_err-rack-clause-keeps : goal.returns-in_err-rack-clause-keeps
returns-in_err-rack-clause-keeps g c = kept c.args.core.now c.finish_later.new.self c.args.stake.now c.args.stake.now c.args.ledger.now c.args.ledger.now c.requires.ready c.in_err-rack.ensures.err refl refl

pub returns-clause-tied : goal.returns-clause-tied
returns-clause-tied g c =
    let out = c.in_ok-rack.rack.tickets in
    let deeds = subst (λ n. AreDeedsOf n (map (λ t. Spent t.1.serial) out) c.args.ledger.now.history) c.requires.ready.held.0 c.spend_all.ensures.deeds in
    λ seated tied. finished_ties c.args.core.now c.finish_later.new.self c.args.stake.now c.args.ledger.now c.spend_all.new.ledger.history out (whole c.requires.ready seated tied) c.requires.due c.in_ok-rack.ensures.ok deeds c.spend_all.ensures.ledger.1

pub returns-clause-keeps : goal.returns-clause-keeps
returns-clause-keeps g c =
    let out = c.in_ok-rack.rack.tickets in
    let collects = c.in_ok-rack.ensures.ok in
    let step = collected_step c.args.core.now c.finish_later.new.self out collects in
    let holds = collected_holds c.args.core.now c.finish_later.new.self c.args.stake.now c.spend_all.new.stake out collects c.requires.ready.held c.spend_all.ensures.agent c.spend_all.ensures.counts in
    let deeds = subst (λ n. AreDeedsOf n (map (λ t. Spent t.1.serial) out) c.args.ledger.now.history) c.requires.ready.held.0 c.spend_all.ensures.deeds in
    keeps c.args.core.now c.finish_later.new.self c.args.ledger.now c.spend_all.new.ledger c.spend_all.new.stake step holds c.spend_all.ensures.ledger.0
    (ap (λ l. ended l c.args.core.now.number) c.spend_all.ensures.ledger.1 ∙ spent_over out c.args.ledger.now.history c.args.core.now.number)
    (map (λ t. Spent t.1.serial) out, c.spend_all.ensures.ledger.1, deeds)
