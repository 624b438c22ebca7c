use Rattle.std.proofs.Common.{refl}
use Rattle.es_event.specs.declared.access.Task.{Task}
use Rattle.es_rules.specs.Needs.{for_word}
use Rattle.es_cluster.proofs.Aims.{aims_at_ticket, aims_inside}
use Rattle.es_cluster.proofs.CountingTickets.{ticket_held}
use Rattle.calls.proofs.asking.access_word.Goals as goal

pub ticket-requires : goal.ticket-requires
ticket-requires g c = aims_at_ticket c.args.core.now (for_word c.args.buffer c.args.index (Task.Access c.args.access)) c.args.buffer c.history.ensures.run c.requires.due refl

pub edit-requires-clause-here : goal.edit-requires-clause-here
edit-requires-clause-here g c = ticket_held c.args.core.now c.args.stake.now c.args.buffer c.ticket.result.now c.requires.held c.ticket.ensures.here

pub edit-requires-clause-inside : goal.edit-requires-clause-inside
edit-requires-clause-inside g c = aims_inside c.args.core.now (for_word c.args.buffer c.args.index (Task.Access c.args.access)) c.args.buffer c.args.index c.requires.due refl refl c.ticket.result.now c.ticket.ensures.named
