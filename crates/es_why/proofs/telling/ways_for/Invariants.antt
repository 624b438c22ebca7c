use Rattle.std.proofs.Common.{◌-◌, drop, length}
use Rattle.es_why.specs.Chosen.{Chosen}
use Rattle.es_why.specs.Flags.{is_set}
use Rattle.es_why.proofs.telling.ways_for.Given as goal

abbrev pub invariant-loop-after : goal.invariant-loop-after
invariant-loop-after l = Chosen (is_set l.told) l.made (drop (length l.ways - l.after) l.ways) l.needed l.chosen.items
