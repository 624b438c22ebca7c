use Rattle.std.proofs.Common.{take}
use Rattle.std.specs.List.{flat_map}
use Rattle.std.specs.Io.KnownBytes.{Appends}
use Rattle.es_why.specs.Lines.{kept_line}
use Rattle.es_why.proofs.root.write_kept_ids.Given as goal

abbrev pub invariant-loop-id : goal.invariant-loop-id
invariant-loop-id g l = Appends (g.W.Write.contents l.initial.writer) (g.W.Write.contents l.writer) (flat_map kept_line (take l.id-index l.ids))
