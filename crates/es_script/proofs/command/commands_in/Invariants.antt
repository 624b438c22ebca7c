use Rattle.std.proofs.Common.{◌≡◌, ◌≤◌, ◌+◌, List, ◌++◌, length}
use Rattle.json.specs.Token.{Token}
use Rattle.es_value.specs.Limits.{most_commands}
use Rattle.es_reading.specs.Lines.{Line}
use Rattle.es_reading.specs.Reading.{said, lines_read}
use Rattle.es_reading.specs.Shape.{is_command}
use Rattle.es_script.specs.Taking.{plain, TookItems}
use Rattle.es_script.proofs.command.commands_in.Given as goal

-- whatever commands are left, those so far come before them
abbrev pub invariant-commands : goal.invariant-commands
invariant-commands l = record {
  taken : (r : List Token) (ls : List Line) → TookItems 1 is_command (lines_read (said l.scope) l.place (l.number + 1)) l.reader ls r → TookItems 1 is_command (lines_read (said l.scope) l.place 1) l.fn.reader (plain l.commands ++ ls) r;
  counted : length l.commands ≡ l.number;
  few : l.number ≤ most_commands;
}

abbrev pub decreases-commands : goal.decreases-commands
decreases-commands l = length l.reader
