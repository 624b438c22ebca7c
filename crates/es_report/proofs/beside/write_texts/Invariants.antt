use Rattle.std.proofs.Common.{ℕ, List, Option, drop}
use Rattle.std.specs.Io.KnownBytes.{Appends}
use Rattle.es_event.specs.Report.{agents_text}
use Rattle.es_report.proofs.beside.write_texts.Given as goal

-- all the lines are appended once those of the agents that are left are
abbrev pub invariant-loop-i : goal.invariant-loop-i
invariant-loop-i g l = (last : Option (List ℕ))
    → Appends (g.W.Write.contents l.writer) last (agents_text (drop l.i l.names) (drop l.i l.histories))
    → Appends (g.W.Write.contents l.initial.writer) last (agents_text l.names l.histories)
