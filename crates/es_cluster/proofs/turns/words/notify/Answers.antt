use Rattle.std.proofs.Common.{refl, ap, Some}
use Rattle.es_match.specs.Deeds.{Notifies}
use Rattle.es_event.specs.Ledger.{ended}
use Rattle.es_event.specs.declared.access.Task.{Task}
use Rattle.es_rules.specs.Needs.{for_word}
use Rattle.es_cluster.proofs.Aims.{aims_at_ticket, aims_inside}
use Rattle.es_cluster.proofs.CountingTickets.{ticket_held}
use Rattle.es_cluster.proofs.Growing.{grows_one}
use Rattle.es_cluster.proofs.MovingMembers.{kept, kept_after, done_keeps}
use Rattle.es_cluster.proofs.Tying.{notify_ties}
use Rattle.es_cluster.proofs.Midway.{whole}
use Rattle.es_cluster.proofs.turns.words.notify.Goals as goal

pub ticket-requires : goal.ticket-requires
ticket-requires g c = aims_at_ticket c.args.core.now (for_word c.args.buffer c.args.index (Task.Notify c.args.count)) c.args.buffer c.history.ensures.run c.requires.due refl

pub notify-requires-clause-here : goal.notify-requires-clause-here
notify-requires-clause-here g c = ticket_held c.args.core.now c.args.stake.now c.args.buffer c.ticket.result.now c.requires.ready.held c.ticket.ensures.here

pub notify-requires-clause-inside : goal.notify-requires-clause-inside
notify-requires-clause-inside g c =
    aims_inside c.args.core.now (for_word c.args.buffer c.args.index (Task.Notify c.args.count)) c.args.buffer c.args.index c.requires.due refl refl c.ticket.result.now c.ticket.ensures.named

pub returns-in_err-taken-clause-keeps : goal.returns-in_err-taken-clause-keeps
returns-in_err-taken-clause-keeps g c =
    kept c.args.core.now c.args.core.now c.args.stake.now c.notify.new.stake c.args.ledger.now c.notify.new.self c.requires.ready refl c.notify.ensures.stake c.in_err-taken.ensures.err

pub returns-in_err-answer_word-clause-keeps : goal.returns-in_err-answer_word-clause-keeps
returns-in_err-answer_word-clause-keeps g c =
    let deeds = grows_one c.args.core.now.number c.args.ledger.now.history c.notify.new.self.history _ _ c.in_ok-taken.ensures.history.1 (ap (λ a. Some (a, Notifies c.ticket.result.now.serial c.args.index c.args.count c.in_ok-taken.taken)) c.requires.ready.held.0) in
    kept_after c.args.core.now c.answer_word.new.self c.args.stake.now c.notify.new.stake c.args.ledger.now c.notify.new.self c.requires.ready c.in_err-answer_word.ensures.err c.notify.ensures.stake
    c.in_ok-taken.ensures.history.0 (ap (λ l. ended l c.args.core.now.number) c.in_ok-taken.ensures.history.1) deeds

pub returns-clause-tied : goal.returns-clause-tied
returns-clause-tied g c =
    λ seated tied. notify_ties c.args.core.now c.answer_word.new.self c.args.stake.now c.args.ledger.now c.notify.new.self.history c.args.buffer c.args.index c.args.count c.in_ok-taken.taken c.ticket.result.now (whole c.requires.ready seated tied) c.requires.due c.ticket.ensures.here
    c.in_ok-taken.ensures.history.1 c.in_ok-answer_word.ensures.ok

pub returns-clause-keeps : goal.returns-clause-keeps
returns-clause-keeps g c =
    let deeds = grows_one c.args.core.now.number c.args.ledger.now.history c.notify.new.self.history _ _ c.in_ok-taken.ensures.history.1 (ap (λ a. Some (a, Notifies c.ticket.result.now.serial c.args.index c.args.count c.in_ok-taken.taken)) c.requires.ready.held.0) in
    done_keeps c.args.core.now c.answer_word.new.self _ c.args.ledger.now c.notify.new.self c.args.stake.now c.notify.new.stake c.in_ok-answer_word.ensures.ok c.notify.ensures.stake c.requires.ready.held
    c.in_ok-taken.ensures.history.0 (ap (λ l. ended l c.args.core.now.number) c.in_ok-taken.ensures.history.1) deeds
