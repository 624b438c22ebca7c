use Rattle.std.proofs.Common.{refl, ap}
use Rattle.es_event.specs.Ledger.{ended}
use Rattle.es_rules.specs.Needs.{for_buffer_post}
use Rattle.es_cluster.proofs.Aims.{aims_at_ticket}
use Rattle.es_cluster.proofs.CountingTickets.{ticket_held}
use Rattle.es_cluster.proofs.MovingMembers.{kept, kept_after, done_keeps}
use Rattle.es_cluster.proofs.Tying.{post_grows, buffer_ties}
use Rattle.es_cluster.proofs.Midway.{whole}
use Rattle.es_cluster.proofs.turns.asking.post_buffer.Goals as goal

pub ticket-requires : goal.ticket-requires
ticket-requires g c = aims_at_ticket c.args.core.now (for_buffer_post c.args.receiver c.args.buffer) c.args.buffer c.history.ensures.run c.requires.due refl

pub post_buffer-requires-clause-here : goal.post_buffer-requires-clause-here
post_buffer-requires-clause-here g c = ticket_held c.args.core.now c.args.stake.now c.args.buffer c.ticket.result.now c.requires.ready.held c.ticket.ensures.here

pub returns-in_err-post_buffer-clause-keeps : goal.returns-in_err-post_buffer-clause-keeps
returns-in_err-post_buffer-clause-keeps g c =
    kept c.args.core.now c.args.core.now c.args.stake.now c.post_buffer.new.stake c.args.ledger.now c.post_buffer.new.self c.requires.ready refl c.post_buffer.ensures.stake c.in_err-post_buffer.ensures.err

pub returns-in_err-answer_done-clause-keeps : goal.returns-in_err-answer_done-clause-keeps
returns-in_err-answer_done-clause-keeps g c =
    let deeds = post_grows c.args.core.now c.args.ledger.now.history c.post_buffer.new.self.history c.args.stake.now.agent c.args.receiver _ c.requires.ready.held.0 c.in_ok-post_buffer.ensures.history.1 in
    kept_after c.args.core.now c.answer_done.new.self c.args.stake.now c.post_buffer.new.stake c.args.ledger.now c.post_buffer.new.self c.requires.ready c.in_err-answer_done.ensures.err c.post_buffer.ensures.stake
    c.in_ok-post_buffer.ensures.history.0 (ap (λ l. ended l c.args.core.now.number) c.in_ok-post_buffer.ensures.history.1) deeds

pub returns-clause-tied : goal.returns-clause-tied
returns-clause-tied g c =
    λ seated tied. buffer_ties c.args.core.now c.answer_done.new.self c.args.stake.now c.args.ledger.now c.post_buffer.new.self.history c.args.receiver c.args.buffer _ c.ticket.result.now (whole c.requires.ready seated tied) c.requires.due
    c.ticket.ensures.here c.in_ok-post_buffer.ensures.history.1 c.in_ok-answer_done.ensures.ok

pub returns-clause-keeps : goal.returns-clause-keeps
returns-clause-keeps g c =
    let deeds = post_grows c.args.core.now c.args.ledger.now.history c.post_buffer.new.self.history c.args.stake.now.agent c.args.receiver _ c.requires.ready.held.0 c.in_ok-post_buffer.ensures.history.1 in
    done_keeps c.args.core.now c.answer_done.new.self _ c.args.ledger.now c.post_buffer.new.self c.args.stake.now c.post_buffer.new.stake c.in_ok-answer_done.ensures.ok c.post_buffer.ensures.stake c.requires.ready.held
    c.in_ok-post_buffer.ensures.history.0 (ap (λ l. ended l c.args.core.now.number) c.in_ok-post_buffer.ensures.history.1) deeds
