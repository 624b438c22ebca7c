use Rattle.std.proofs.Common.{◌≤◌, length, vec_capacity}
use Rattle.es_event.specs.Identities.{is_in}
use Rattle.es_ticket.specs.Stakes.{among}
use Rattle.es_ticket.proofs.Parted.{Parting}
use Rattle.es_ticket.proofs.parting.part.Given as goal

abbrev pub invariant-loop : goal.invariant-loop
invariant-loop g l = record {
  parting : Parting (λ t. is_in l.ids t.0) l.fn.kept.items l.queue.items l.taken.items l.counter l.end;
  room : length (among l.ids l.fn.kept.items) ≤ vec_capacity l.taken;
}
