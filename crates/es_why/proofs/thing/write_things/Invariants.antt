use Rattle.std.specs.List.{flat_map, range_with_len}
use Rattle.std.specs.Io.KnownBytes.{Appends}
use Rattle.es_why.specs.Picture.{thing_at}
use Rattle.es_why.proofs.thing.write_things.Given as goal

abbrev pub invariant-loop-before : goal.invariant-loop-before
invariant-loop-before g l = Appends (g.W.Write.contents l.initial.writer) (g.W.Write.contents l.writer) (flat_map (thing_at l.agent.history) (range_with_len 1 l.before))
