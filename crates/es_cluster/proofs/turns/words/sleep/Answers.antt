use Rattle.std.proofs.Common.{refl, sym, ◌∙◌, inr}
use Rattle.es_event.specs.declared.access.Task.{Task}
use Rattle.es_rules.specs.Needs.{for_word}
use Rattle.es_cluster.proofs.Aims.{aims_at_ticket, aims_inside}
use Rattle.es_cluster.proofs.CountingTickets.{ticket_held}
use Rattle.es_cluster.proofs.MovingMembers.{kept, kept_after, done_keeps}
use Rattle.es_cluster.proofs.Midway.{whole}
use Rattle.es_cluster.proofs.Sleeping.{goes_on_at, rested_here, rested_ties, resting_so, sleeps_on_so, told_here}
use Rattle.es_cluster.proofs.turns.words.sleep.Goals as goal

pub ticket-requires : goal.ticket-requires
ticket-requires g c = aims_at_ticket c.args.core.now (for_word c.args.buffer c.args.index (Task.Sleep c.args.word)) c.args.buffer c.history.ensures.run c.requires.due refl

pub wait_at-requires-clause-here : goal.wait_at-requires-clause-here
wait_at-requires-clause-here g c = ticket_held c.args.core.now c.args.stake.now c.args.buffer c.ticket.result.now c.requires.ready.held c.ticket.ensures.here

pub wait_at-requires-clause-inside : goal.wait_at-requires-clause-inside
wait_at-requires-clause-inside g c =
    aims_inside c.args.core.now (for_word c.args.buffer c.args.index (Task.Sleep c.args.word)) c.args.buffer c.args.index c.requires.due refl refl c.ticket.result.now c.ticket.ensures.named

pub returns-in_err-told-clause-keeps : goal.returns-in_err-told-clause-keeps
returns-in_err-told-clause-keeps g c =
    kept c.args.core.now c.args.core.now c.args.stake.now c.wait_at.new.stake c.args.ledger.now c.wait_at.new.self c.requires.ready refl c.wait_at.ensures.stake c.in_err-told.ensures.err

pub returns-in_err-answer_wait-in-Some-clause-keeps : goal.returns-in_err-answer_wait-in-Some-clause-keeps
returns-in_err-answer_wait-in-Some-clause-keeps g c =
    let mine = ticket_held c.args.core.now c.args.stake.now c.args.buffer c.ticket.result.now c.requires.ready.held c.ticket.ensures.here in
    let rested = rested_here c.args.core.now c.args.stake.now c.args.ledger.now c.wait_at.new.self.history c.args.index c.args.word c.ticket.result.now c.in_ok-told.told c.requires.ready mine c.in_ok-told.ensures.told in
    kept_after c.args.core.now c.answer_wait.new.self c.args.stake.now c.wait_at.new.stake c.args.ledger.now c.wait_at.new.self c.requires.ready c.in_err-answer_wait-in-Some.ensures.err c.wait_at.ensures.stake c.wait_at.ensures.agents rested.ends rested.grows

pub returns-in_ok-answer_wait-in-Some-clause-told : goal.returns-in_ok-answer_wait-in-Some-clause-told
returns-in_ok-answer_wait-in-Some-clause-told g c =
    goes_on_at c.args.core.now c.args.ledger.now c.wait_at.new.self c.args.buffer c.args.index c.args.word c.ticket.result.now c.in_ok-told.told c.in-Some.ended c.wait_at.new.self.history c.requires.due c.ticket.ensures.here
    (told_here c.args.core.now c.args.stake.now c.args.ledger.now c.wait_at.new.self.history c.args.index c.args.word c.ticket.result.now c.in_ok-told.told c.requires.ready.held.0 c.in_ok-told.ensures.told) (sym c.wait_result.ensures ∙ c.in-Some.is)

pub returns-in_ok-answer_wait-in-Some-clause-tied : goal.returns-in_ok-answer_wait-in-Some-clause-tied
returns-in_ok-answer_wait-in-Some-clause-tied g c =
    let mine = ticket_held c.args.core.now c.args.stake.now c.args.buffer c.ticket.result.now c.requires.ready.held c.ticket.ensures.here in
    λ seated tied. rested_ties c.args.core.now c.answer_wait.new.self c.args.stake.now c.args.ledger.now c.wait_at.new.self.history c.args.buffer c.args.index c.args.word c.ticket.result.now c.in_ok-told.told c.in-Some.ended (whole c.requires.ready seated tied) c.requires.due mine c.ticket.ensures.here
    (told_here c.args.core.now c.args.stake.now c.args.ledger.now c.wait_at.new.self.history c.args.index c.args.word c.ticket.result.now c.in_ok-told.told c.requires.ready.held.0 c.in_ok-told.ensures.told) (sym c.wait_result.ensures ∙ c.in-Some.is) c.in_ok-answer_wait-in-Some.ensures.ok

pub returns-in_ok-answer_wait-in-Some-clause-keeps : goal.returns-in_ok-answer_wait-in-Some-clause-keeps
returns-in_ok-answer_wait-in-Some-clause-keeps g c =
    let mine = ticket_held c.args.core.now c.args.stake.now c.args.buffer c.ticket.result.now c.requires.ready.held c.ticket.ensures.here in
    let rested = rested_here c.args.core.now c.args.stake.now c.args.ledger.now c.wait_at.new.self.history c.args.index c.args.word c.ticket.result.now c.in_ok-told.told c.requires.ready mine c.in_ok-told.ensures.told in
    done_keeps c.args.core.now c.answer_wait.new.self _ c.args.ledger.now c.wait_at.new.self c.args.stake.now c.wait_at.new.stake c.in_ok-answer_wait-in-Some.ensures.ok c.wait_at.ensures.stake c.requires.ready.held c.wait_at.ensures.agents rested.ends rested.grows

pub returns-in-None-clause-told : goal.returns-in-None-clause-told
returns-in-None-clause-told g c =
    inr (sleeps_on_so c.args.core.now c.args.stake.now c.args.ledger.now c.wait_at.new.self c.args.buffer c.args.index c.args.word c.ticket.result.now c.in_ok-told.told c.requires.ready.held.0 c.requires.due c.ticket.ensures.here c.in_ok-told.ensures.told (sym c.wait_result.ensures ∙ c.in-None.is))

pub returns-in-None-clause-tied : goal.returns-in-None-clause-tied
returns-in-None-clause-tied g c =
    λ seated tied. resting_so c.args.core.now c.args.stake.now c.args.ledger.now c.wait_at.new.self.history c.args.buffer c.args.index c.args.word c.ticket.result.now c.in_ok-told.told (whole c.requires.ready seated tied) c.requires.due c.ticket.ensures.here c.in_ok-told.ensures.told
    (sym c.wait_result.ensures ∙ c.in-None.is)

pub returns-in-None-clause-keeps : goal.returns-in-None-clause-keeps
returns-in-None-clause-keeps g c =
    let mine = ticket_held c.args.core.now c.args.stake.now c.args.buffer c.ticket.result.now c.requires.ready.held c.ticket.ensures.here in
    let rested = rested_here c.args.core.now c.args.stake.now c.args.ledger.now c.wait_at.new.self.history c.args.index c.args.word c.ticket.result.now c.in_ok-told.told c.requires.ready mine c.in_ok-told.ensures.told in
    kept_after c.args.core.now c.args.core.now c.args.stake.now c.wait_at.new.stake c.args.ledger.now c.wait_at.new.self c.requires.ready refl c.wait_at.ensures.stake c.wait_at.ensures.agents rested.ends rested.grows
