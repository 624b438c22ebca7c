use Rattle.std.proofs.Common.{◌≡◌, take}
use Rattle.std.specs.List.{filter}
use Rattle.es_event.specs.Ledger.{is_released}
use Rattle.es_turns.proofs.blocks.Blocks.released_of.Given as goal

abbrev pub invariant-loop-block : goal.invariant-loop-block
invariant-loop-block g l = l.released.items ≡ filter (is_released l.cluster.ledger.history) (take l.block-index l.blocks)
