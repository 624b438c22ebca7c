use Rattle.std.proofs.Common.{◌≡◌, ◌++◌, drop, reverse}
use Rattle.es_event.specs.History.{History}
use Rattle.es_match.specs.Cluster.{refused_senders}
use Rattle.es_outcome.specs.Said.{IsAt}
use Rattle.es_outcome.proofs.said.refused_senders.Given as goal

abbrev pub invariant-loop-event : goal.invariant-loop-event
invariant-loop-event l = record {
  past : History;
  all : reverse l.history ≡ reverse (drop l.event-index l.history) ++ past;
  place : IsAt l.plan.jobs past l.place;
  senders : l.senders.items ≡ refused_senders l.plan past;
}
