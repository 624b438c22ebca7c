use Rattle.std.proofs.Common.{take}
use Rattle.std.specs.List.{flat_map}
use Rattle.std.specs.Io.KnownBytes.{Appends}
use Rattle.es_trace_json.specs.Ledger.{released_line}
use Rattle.es_trace_json.proofs.ledger.write_released.Given as goal

abbrev pub invariant-loop-block : goal.invariant-loop-block
invariant-loop-block g l = Appends (g.W.Write.contents l.initial.writer) (g.W.Write.contents l.writer) (flat_map released_line (take l.block-index l.blocks))
