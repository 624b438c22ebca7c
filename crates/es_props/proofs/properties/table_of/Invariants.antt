use Rattle.std.proofs.Common.{◌≡◌, ◌+◌, ◌≤◌, take, length}
use Rattle.indexmap.specs.IndexMap.{spare}
use Rattle.es_props.proofs.properties.table_of.Given as goal

abbrev pub invariant-loop-key : goal.invariant-loop-key
invariant-loop-key l = record {
  so_far : l.table.entries ≡ take l.key-index l.entries;
  room : length l.entries + 1 ≤ spare l.table + l.key-index;
}
