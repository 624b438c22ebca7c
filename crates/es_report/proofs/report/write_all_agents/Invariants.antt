use Rattle.std.proofs.Common.{ℕ, List, Option}
use Rattle.std.specs.Io.KnownBytes.{Appends}
use Rattle.std.specs.Iterator.Adapters.{zip_first, zip_second}
use Rattle.std.specs.Slice.Iter.{iter_rest}
use Rattle.es_event.specs.Report.{agents_text}
use Rattle.es_report.proofs.report.write_all_agents.Given as goal

-- all the lines are appended once those of the agents that are left are
abbrev pub invariant-loop-name : goal.invariant-loop-name
invariant-loop-name g l =
    (last : Option (List ℕ))
    → Appends (g.W.Write.contents l.writer) last (agents_text (iter_rest (zip_first l.name-iterator)) (iter_rest (zip_second l.name-iterator)))
    → Appends (g.W.Write.contents l.initial.writer) last (agents_text l.names l.histories)
