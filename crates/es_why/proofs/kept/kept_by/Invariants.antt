use Rattle.std.proofs.Common.{◌≡◌, map, take}
use Rattle.es_why.specs.Chosen.{AreKeysOf}
use Rattle.es_why.specs.Kept.{kept_by}
use Rattle.es_why.proofs.kept.kept_by.Given as goal

abbrev pub invariant-loop-way : goal.invariant-loop-way
invariant-loop-way l = record {
  kept : l.kept.items ≡ map (kept_by l.agent.history l.names) (take l.way-index l.ways);
  read : AreKeysOf l.agent.history l.read.object l.read.keys.items;
}
