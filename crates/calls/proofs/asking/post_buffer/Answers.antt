use Rattle.std.proofs.Common.{refl, sym, subst}
use Rattle.es_rules.specs.Needs.{for_buffer_post, TakesDone}
use Rattle.es_cluster.specs.Members.{Holds}
use Rattle.es_cluster.proofs.Aims.{aims_at_ticket}
use Rattle.es_cluster.proofs.CountingTickets.{ticket_held}
use Rattle.calls.proofs.asking.post_buffer.Goals as goal

pub ticket-requires : goal.ticket-requires
ticket-requires g c = aims_at_ticket c.args.core.now (for_buffer_post c.args.receiver c.args.buffer) c.args.buffer c.history.ensures.run c.requires.due refl

pub post_buffer-requires-clause-here : goal.post_buffer-requires-clause-here
post_buffer-requires-clause-here g c = ticket_held c.args.core.now c.args.stake.now c.args.buffer c.ticket.result.now c.requires.held c.ticket.ensures.here

pub returns-clause-ok : goal.returns-clause-ok
returns-clause-ok g c = record {
  asked = subst (λ n. TakesDone n) (sym c.requires.due) tt;
  held = subst (Holds c.args.core.now) (sym c.post_buffer.ensures.stake) c.requires.held;
}
