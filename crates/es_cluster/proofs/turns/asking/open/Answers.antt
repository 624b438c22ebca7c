use Rattle.std.proofs.Common.{refl, ap}
use Rattle.es_event.specs.Ledger.{ended}
use Rattle.es_cluster.proofs.Midway.{whole}
use Rattle.es_cluster.proofs.MovingMembers.{kept, keeps_on}
use Rattle.es_cluster.proofs.Tying.{opens, opening_grows}
use Rattle.es_cluster.proofs.turns.asking.open.Goals as goal

pub returns-clause-tied : goal.returns-clause-tied
returns-clause-tied g c =
    λ seated tied. c.in_ok-admit.ensures.tied (opens c.args.core.now c.args.stake.now c.args.ledger.now c.open_block.new.self.history c.args.words c.in_ok-ticket.ticket (whole c.requires.ready seated tied) c.requires.due (ap (λ r. r.words) c.in_ok-ticket.ensures.ticket) c.in_ok-ticket.ensures.history)

pub returns-in_err-ticket-clause-keeps : goal.returns-in_err-ticket-clause-keeps
returns-in_err-ticket-clause-keeps g c =
    kept c.args.core.now c.args.core.now c.args.stake.now c.open_block.new.stake c.args.ledger.now c.open_block.new.self c.requires.ready refl c.in_err-ticket.ensures.err.1 c.in_err-ticket.ensures.err.0

pub returns-in_err-admit-clause-keeps : goal.returns-in_err-admit-clause-keeps
returns-in_err-admit-clause-keeps g c =
    keeps_on c.args.core.now c.args.ledger.now c.open_block.new.self c.admit.new.ledger c.admit.new.core c.admit.new.stake c.admit.ensures.keeps c.in_ok-ticket.ensures.agents (ap (λ l. ended l c.args.core.now.number) c.in_ok-ticket.ensures.history)
    (opening_grows c.args.core.now c.args.ledger.now.history c.open_block.new.self.history c.args.stake.now.agent _ _ _ c.requires.ready.held.0 c.in_ok-ticket.ensures.history)

pub returns-clause-keeps : goal.returns-clause-keeps
returns-clause-keeps g c =
    keeps_on c.args.core.now c.args.ledger.now c.open_block.new.self c.admit.new.ledger c.admit.new.core c.admit.new.stake c.admit.ensures.keeps c.in_ok-ticket.ensures.agents (ap (λ l. ended l c.args.core.now.number) c.in_ok-ticket.ensures.history)
    (opening_grows c.args.core.now c.args.ledger.now.history c.open_block.new.self.history c.args.stake.now.agent _ _ _ c.requires.ready.held.0 c.in_ok-ticket.ensures.history)
