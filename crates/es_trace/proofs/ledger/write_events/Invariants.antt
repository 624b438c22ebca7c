use Rattle.std.proofs.Common.{take}
use Rattle.std.specs.List.{flat_map}
use Rattle.std.specs.Io.KnownBytes.{Appends}
use Rattle.es_trace.specs.Ledger.{ledger_row}
use Rattle.es_trace.proofs.ledger.write_events.Given as goal

abbrev pub invariant-loop-event : goal.invariant-loop-event
invariant-loop-event g l = Appends (g.W.Write.contents l.initial.writer) (g.W.Write.contents l.writer) (flat_map (ledger_row l.names l.label) (take l.event-index l.events))
