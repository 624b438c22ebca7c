use Rattle.std.proofs.Common.{take}
use Rattle.es_mark.specs.Graph.{HasAll}
use Rattle.es_mark.specs.Marks.{is_marked}
use Rattle.es_parmark.proofs.more.has_all.Given as goal

abbrev pub invariant-loop-id : goal.invariant-loop-id
invariant-loop-id l = HasAll (take l.id-index l.ids) (is_marked l.marks)
