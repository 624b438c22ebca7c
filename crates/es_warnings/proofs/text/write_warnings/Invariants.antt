use Rattle.std.proofs.Common.{take}
use Rattle.std.specs.Io.KnownBytes.{Appends}
use Rattle.es_warnings.specs.Texts.{warnings_text}
use Rattle.es_warnings.proofs.text.write_warnings.Given as goal

abbrev pub invariant-loop-warning : goal.invariant-loop-warning
invariant-loop-warning g l = Appends (g.W.Write.contents l.initial.writer) (g.W.Write.contents l.writer) (warnings_text l.plan (take l.warning-index l.warnings))
