use Rattle.std.proofs.Common.{refl}
use Rattle.es_event.specs.declared.access.Task.{Task}
use Rattle.es_rules.specs.Needs.{for_word}
use Rattle.es_cluster.proofs.Aims.{aims_at_ticket, aims_inside}
use Rattle.es_cluster.proofs.CountingTickets.{ticket_held}
use Rattle.calls.proofs.asking.notify.Goals as goal

pub ticket-requires : goal.ticket-requires
ticket-requires g c = aims_at_ticket c.args.core.now (for_word c.args.buffer c.args.index (Task.Notify c.args.count)) c.args.buffer c.history.ensures.run c.requires.due refl

pub notify-requires-clause-here : goal.notify-requires-clause-here
notify-requires-clause-here g c = ticket_held c.args.core.now c.args.stake.now c.args.buffer c.ticket.result.now c.requires.held c.ticket.ensures.here

pub notify-requires-clause-inside : goal.notify-requires-clause-inside
notify-requires-clause-inside g c =
    aims_inside c.args.core.now (for_word c.args.buffer c.args.index (Task.Notify c.args.count)) c.args.buffer c.args.index c.requires.due refl refl c.ticket.result.now c.ticket.ensures.named
