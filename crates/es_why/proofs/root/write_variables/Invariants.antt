use Rattle.std.proofs.Common.{take}
use Rattle.std.specs.List.{flat_map}
use Rattle.std.specs.Io.KnownBytes.{Appends}
use Rattle.es_why.specs.Picture.{variable_at}
use Rattle.es_why.proofs.root.write_variables.Given as goal

abbrev pub invariant-loop-name : goal.invariant-loop-name
invariant-loop-name g l = Appends (g.W.Write.contents l.initial.writer) (g.W.Write.contents l.writer) (flat_map (variable_at l.agent) (take l.name-index l.names))
