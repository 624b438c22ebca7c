use Rattle.es_reading.specs.Reading.{said}
use Rattle.es_script.proofs.TakingCommands.{took_run}
use Rattle.es_script.proofs.command.run_in.Goals as goal

pub returns : goal.returns
returns c = rw c.in_ok-of.ensures (
    took_run (said c.args.scope.now) c.args.place c.in_ok-commands.commands c.args.reader.now c.open_array.new.reader c.commands_in.new.reader c.in_ok-open_array.ensures c.in_ok-commands.ensures.taken c.in_ok-commands.ensures.few)
