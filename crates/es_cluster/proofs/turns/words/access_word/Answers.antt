use Rattle.std.proofs.Common.{refl, ap}
use Rattle.es_event.specs.Ledger.{ended}
use Rattle.es_event.specs.declared.access.Task.{Task}
use Rattle.es_rules.specs.Needs.{for_word}
use Rattle.es_cluster.proofs.Aims.{aims_at_ticket, aims_inside}
use Rattle.es_cluster.proofs.CountingTickets.{ticket_held}
use Rattle.es_cluster.proofs.Growing.{grows_one}
use Rattle.es_cluster.proofs.MovingMembers.{kept, kept_after, done_keeps}
use Rattle.es_cluster.proofs.Tying.{owned, access_ties}
use Rattle.es_cluster.proofs.Midway.{whole}
use Rattle.es_cluster.proofs.turns.words.access_word.Goals as goal

pub ticket-requires : goal.ticket-requires
ticket-requires g c = aims_at_ticket c.args.core.now (for_word c.args.buffer c.args.index (Task.Access c.args.access)) c.args.buffer c.history.ensures.run c.requires.due refl

pub edit-requires-clause-here : goal.edit-requires-clause-here
edit-requires-clause-here g c = ticket_held c.args.core.now c.args.stake.now c.args.buffer c.ticket.result.now c.requires.ready.held c.ticket.ensures.here

pub edit-requires-clause-inside : goal.edit-requires-clause-inside
edit-requires-clause-inside g c =
    aims_inside c.args.core.now (for_word c.args.buffer c.args.index (Task.Access c.args.access)) c.args.buffer c.args.index c.requires.due refl refl c.ticket.result.now c.ticket.ensures.named

pub returns-in_err-old-clause-keeps : goal.returns-in_err-old-clause-keeps
returns-in_err-old-clause-keeps g c =
    kept c.args.core.now c.args.core.now c.args.stake.now c.edit.new.stake c.args.ledger.now c.edit.new.self c.requires.ready refl c.edit.ensures.stake c.in_err-old.ensures.err

pub returns-in_err-answer-clause-keeps : goal.returns-in_err-answer-clause-keeps
returns-in_err-answer-clause-keeps g c =
    let mine = ticket_held c.args.core.now c.args.stake.now c.args.buffer c.ticket.result.now c.requires.ready.held c.ticket.ensures.here in
    let deeds = grows_one c.args.core.now.number c.args.ledger.now.history c.edit.new.self.history _ _ c.in_ok-old.ensures.history.1 (owned c.args.core.now c.args.stake.now c.args.ledger.now c.ticket.result.now _ c.requires.ready.held.0 c.requires.ready.holder mine) in
    kept_after c.args.core.now c.answer.new.core c.args.stake.now c.edit.new.stake c.args.ledger.now c.edit.new.self c.requires.ready c.in_err-answer.ensures.err c.edit.ensures.stake
    c.in_ok-old.ensures.history.0 (ap (λ l. ended l c.args.core.now.number) c.in_ok-old.ensures.history.1) deeds

pub returns-clause-tied : goal.returns-clause-tied
returns-clause-tied g c =
    let mine = ticket_held c.args.core.now c.args.stake.now c.args.buffer c.ticket.result.now c.requires.ready.held c.ticket.ensures.here in
    λ seated tied. access_ties c.args.core.now c.answer.new.core c.args.stake.now c.args.ledger.now c.edit.new.self.history c.args.buffer c.args.index _ c.args.access c.ticket.result.now (whole c.requires.ready seated tied) c.requires.due mine c.ticket.ensures.here
    c.in_ok-old.ensures.history.1 c.in_ok-answer.ensures.ok

pub returns-clause-keeps : goal.returns-clause-keeps
returns-clause-keeps g c =
    let mine = ticket_held c.args.core.now c.args.stake.now c.args.buffer c.ticket.result.now c.requires.ready.held c.ticket.ensures.here in
    let deeds = grows_one c.args.core.now.number c.args.ledger.now.history c.edit.new.self.history _ _ c.in_ok-old.ensures.history.1 (owned c.args.core.now c.args.stake.now c.args.ledger.now c.ticket.result.now _ c.requires.ready.held.0 c.requires.ready.holder mine) in
    done_keeps c.args.core.now c.answer.new.core _ c.args.ledger.now c.edit.new.self c.args.stake.now c.edit.new.stake c.in_ok-answer.ensures.ok c.edit.ensures.stake c.requires.ready.held
    c.in_ok-old.ensures.history.0 (ap (λ l. ended l c.args.core.now.number) c.in_ok-old.ensures.history.1) deeds
