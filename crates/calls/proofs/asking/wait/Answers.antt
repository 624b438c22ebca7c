use Rattle.std.proofs.Common.{refl}
use Rattle.es_event.specs.declared.access.Task.{Task}
use Rattle.es_rules.specs.Needs.{for_word}
use Rattle.es_cluster.proofs.Aims.{aims_at_ticket, aims_inside}
use Rattle.es_cluster.proofs.CountingTickets.{ticket_held}
use Rattle.calls.proofs.asking.wait.Goals as goal

pub ticket-requires : goal.ticket-requires
ticket-requires g c = aims_at_ticket c.args.core.now (for_word c.args.buffer c.args.index (Task.Sleep c.args.word)) c.args.buffer c.history.ensures.run c.requires.due refl

pub wait_at-requires-clause-here : goal.wait_at-requires-clause-here
wait_at-requires-clause-here g c = ticket_held c.args.core.now c.args.stake.now c.args.buffer c.ticket.result.now c.requires.held c.ticket.ensures.here

pub wait_at-requires-clause-inside : goal.wait_at-requires-clause-inside
wait_at-requires-clause-inside g c =
    aims_inside c.args.core.now (for_word c.args.buffer c.args.index (Task.Sleep c.args.word)) c.args.buffer c.args.index c.requires.due refl refl c.ticket.result.now c.ticket.ensures.named
