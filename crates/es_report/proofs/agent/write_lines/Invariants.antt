use Rattle.std.proofs.Common.{take}
use Rattle.std.specs.List.{flat_map}
use Rattle.std.specs.Io.KnownBytes.{Appends}
use Rattle.es_event.specs.Report.{line}
use Rattle.es_report.proofs.agent.write_lines.Given as goal

abbrev pub invariant-loop-event : goal.invariant-loop-event
invariant-loop-event g l = Appends (g.W.Write.contents l.initial.writer) (g.W.Write.contents l.writer) (flat_map line (take l.event-index l.events))
