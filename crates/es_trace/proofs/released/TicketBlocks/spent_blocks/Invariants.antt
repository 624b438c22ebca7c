use Rattle.std.proofs.Common.{◌≡◌, drop}
use Rattle.es_event.specs.Ledger.{Ledger}
use Rattle.es_trace.specs.Released.{KnowsBlocks, spent_blocks}
use Rattle.es_trace.proofs.released.TicketBlocks.spent_blocks.Given as goal

-- the blocks of the events from here on
abbrev pub invariant-loop-place : goal.invariant-loop-place
invariant-loop-place l = (h : Ledger) → KnowsBlocks h l.self → l.blocks.items ≡ spent_blocks h (drop l.place l.events)
