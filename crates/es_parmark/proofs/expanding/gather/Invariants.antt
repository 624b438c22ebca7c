use Rattle.std.proofs.Common.{take}
use Rattle.es_mark.specs.Graph.{HasAll}
use Rattle.es_parmark.specs.Gathered.{IsSifted}
use Rattle.es_parmark.proofs.expanding.gather.Given as goal

abbrev pub invariant-loop-id : goal.invariant-loop-id
invariant-loop-id l = IsSifted l.marks (HasAll (take l.id-index l.ids)) l.initial.found.items l.found.items
