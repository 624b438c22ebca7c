use Rattle.std.proofs.Common.{◌≡◌, refl, subst, ap, ◌∙◌, ◌∷◌, Some}
use Rattle.es_event.specs.declared.ledger_event.LedgerEvent.TheVariants.{Spent}
use Rattle.es_event.specs.declared.row.Row.{Row}
use Rattle.es_event.specs.Ledger.{ended, holder_of}
use Rattle.es_cluster.proofs.CountingTickets.{beside_held}
use Rattle.es_agent.specs.Failing.{FailsToAdmit}
use Rattle.es_cluster.proofs.Growing.{grows_none}
use Rattle.es_cluster.proofs.MovingMembers.{keeps, admitted_step, admitted_moves, admitted_holds, refused_stays, refused_keeps, returned_keeps}
use Rattle.es_cluster.proofs.Tying.{admitted_ties, refused_ties, spending_grows}
use Rattle.es_cluster.proofs.turns.asking.admit.Goals as goal

pub spend-requires : goal.spend-requires
spend-requires g c = rw (c.in-Err.ensures.err.0) (beside_held c.args.core.now c.args.stake.now c.args.ticket c.requires.held)

pub returns-in-Ok-clause-ok : goal.returns-in-Ok-clause-ok
returns-in-Ok-clause-ok g c = admitted_moves c.args.core.now c.admit.new.self c.args.ticket c.in-Ok.ensures.ok.1

pub returns-in-Ok-clause-keeps : goal.returns-in-Ok-clause-keeps
returns-in-Ok-clause-keeps g c =
    let admits = c.in-Ok.ensures.ok.1 in
    let step = admitted_step c.args.core.now c.admit.new.self c.args.ticket admits in
    let holds = admitted_holds c.args.core.now c.admit.new.self c.args.stake.now c.args.ticket c.history.ensures.run admits c.requires.held in
    keeps c.args.core.now c.admit.new.self c.args.ledger.now c.args.ledger.now c.args.stake.now step holds refl refl (grows_none c.args.core.now.number c.args.ledger.now.history)

pub returns-in-Ok-clause-tied : goal.returns-in-Ok-clause-tied
returns-in-Ok-clause-tied g c = λ fetched. admitted_ties c.args.core.now c.admit.new.self c.args.ledger.now.history c.args.ticket c.history.ensures.run fetched c.in-Ok.ensures.ok.1

pub returns-in-Refused-clause-tied : goal.returns-in-Refused-clause-tied
returns-in-Refused-clause-tied g c =
    let is = c.in-Err.ensures.err.0 in
    λ fetched. refused_ties c.args.core.now c.admit.new.self c.args.ledger.now.history c.spend.new.self.history c.args.ticket c.history.ensures.run fetched c.args.stake.now.agent c.requires.held.0
    (subst (λ (q : Row). holder_of c.args.ledger.now.history q.serial ≡ Some (c.args.stake.now.agent, q)) is c.spend.ensures.holder)
    (c.spend.ensures.history.1 ∙ ap (λ (q : Row). Spent q.serial ∷ c.args.ledger.now.history) is) (subst (λ f. FailsToAdmit c.args.core.now f c.admit.new.self) c.in-Refused.is c.in-Err.ensures.err.1)

pub returns-in-Refused-clause-keeps : goal.returns-in-Refused-clause-keeps
returns-in-Refused-clause-keeps g c =
    refused_keeps c.args.core.now c.admit.new.self c.args.ledger.now c.spend.new.self c.args.stake.now c.spend.new.stake c.args.ticket c.in-Err.ticket (refused_stays c.args.core.now c.admit.new.self (subst (λ f. FailsToAdmit c.args.core.now f c.admit.new.self) c.in-Refused.is c.in-Err.ensures.err.1)) c.requires.held c.in-Err.ensures.err.0 c.spend.ensures.stake.0 c.spend.ensures.counts
    c.spend.ensures.history.0 (ap (λ l. ended l c.args.core.now.number) c.spend.ensures.history.1)
    (spending_grows c.args.core.now c.args.ledger.now.history c.spend.new.self.history c.args.stake.now.agent c.in-Err.ticket c.requires.held.0 c.spend.ensures.holder c.spend.ensures.history.1)

pub returns-in-NoMemory-clause-keeps : goal.returns-in-NoMemory-clause-keeps
returns-in-NoMemory-clause-keeps g c =
    returned_keeps c.args.core.now c.admit.new.self c.args.ledger.now c.spend.new.self c.args.stake.now c.spend.new.stake c.args.ticket c.in-Err.ticket (subst (λ f. FailsToAdmit c.args.core.now f c.admit.new.self) c.in-NoMemory.is c.in-Err.ensures.err.1) c.requires.held c.in-Err.ensures.err.0 c.spend.ensures.stake.0 c.spend.ensures.counts
    c.spend.ensures.history.0 (ap (λ l. ended l c.args.core.now.number) c.spend.ensures.history.1)
    (spending_grows c.args.core.now c.args.ledger.now.history c.spend.new.self.history c.args.stake.now.agent c.in-Err.ticket c.requires.held.0 c.spend.ensures.holder c.spend.ensures.history.1)
