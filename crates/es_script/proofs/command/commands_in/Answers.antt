use Rattle.std.proofs.Common.{◌≡◌, ◌+◌, [], ◌∷◌, ◌++◌, Some, None, refl, ap, ◌∙◌, arith, length-append}
use Rattle.json.specs.Json.{after_end_array}
use Rattle.es_reading.specs.Reading.{said, line_read, lines_read}
use Rattle.es_reading.specs.Shape.{is_command}
use Rattle.es_script.specs.Taking.{plain, IsRead, Took}
use Rattle.es_script.proofs.Plain.{plain_last}
use Rattle.es_script.proofs.Taking.{took_more, took_all}
use Rattle.es_script.proofs.command.commands_in.Goals as goal

pub commands-preserved : goal.commands-preserved
commands-preserved c =
    let l = c.commands in
    let scope = said c.args.scope.now in
    let place = c.args.place in
    let command = c.in_ok-command.command in
    let next = c.command_in.new.reader in
    let reading = line_read scope (record { place = place; command = l.number + 1 }) in
    let unclosed : after_end_array l.reader ≡ None = grind arith in
    let unmoved : c.take_end_array.new.self ≡ l.reader = grind arith in
    let took : Took 1 (IsRead is_command reading) l.reader (None, command) next = rw (← unmoved) c.in_ok-command.ensures in
    let pushed : c.push.new.self ≡ l.commands ++ command ∷ [] = grind arith in
    record {
      taken = took_more 1 is_command reading (lines_read scope place 1) (lines_read scope place (l.number + 1)) (lines_read scope place (l.number + 1 + 1)) (λ d ds. refl) c.args.reader.now l.reader next (plain l.commands) (plain c.push.new.self) (None, command) l.invariant.taken unclosed took (ap plain pushed ∙ plain_last l.commands command);
      counted = rw pushed (omega (arith, length-append l.commands (command ∷ []), l.invariant.counted));
      few = omega arith;
    }

pub returns-clause-taken : goal.returns-clause-taken
returns-clause-taken c =
    let l = c.commands in
    let scope = said c.args.scope.now in
    let place = c.args.place in
    let r = c.take_end_array.new.self in
    let closed : after_end_array l.reader ≡ Some r = grind arith in
    took_all 1 is_command (lines_read scope place 1) (lines_read scope place (l.number + 1)) c.args.reader.now l.reader r (plain l.commands) l.invariant.taken refl closed
