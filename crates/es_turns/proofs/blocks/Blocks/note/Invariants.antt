use Rattle.std.proofs.Common.{◌≤◌, ◌+◌, ◌++◌, take, reverse}
use Rattle.es_event.specs.Ledger.{Ledger}
use Rattle.es_turns.specs.Known.{Says}
use Rattle.es_turns.proofs.blocks.Blocks.note.Given as goal

abbrev pub invariant-loop-event : goal.invariant-loop-event
invariant-loop-event l = record {
  few : l.self.opened ≤ l.initial.self.opened + l.event-index;
  says : (h : Ledger) → Says h l.initial.self → Says (reverse (take l.event-index l.events) ++ h) l.self;
}
