use Rattle.std.proofs.Common.{◌≡◌, ◌+◌, drop, List}
use Rattle.serde_json.specs.View.{items_view}
use Rattle.es_reading.specs.Lines.{Line}
use Rattle.es_reading.specs.Reading.{said, lines_read, after}
use Rattle.es_reading.specs.Run.{HasLines}
use Rattle.es_reading.proofs.command.lines_of.Given as goal

abbrev pub invariant-loop-index : goal.invariant-loop-index
invariant-loop-index l =
    (front : List Line) × HasLines front l.run
    × (lines_read (said l.scope) l.place 1 (items_view l.list) ≡ after front (lines_read (said l.scope) l.place (l.index + 1) (items_view (drop l.index l.list))))
